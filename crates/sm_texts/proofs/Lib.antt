pub mod Pairs
pub mod Reached
pub mod Loading
pub mod Scanned
