pub mod LentRequest
pub mod Pairs
pub mod Service
