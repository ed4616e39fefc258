pub mod Entries
pub mod Names
pub mod Soundness
pub mod Steps
