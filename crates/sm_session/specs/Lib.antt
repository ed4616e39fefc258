pub mod Beginning
pub mod LongLines
pub mod Responses
pub mod Service
pub mod lemmas
