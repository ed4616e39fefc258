pub mod Acking
pub mod Adding
