pub mod Calls
pub mod Generations
pub mod Reaching
pub mod Single
