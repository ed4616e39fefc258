pub mod Answers
pub mod Basing
pub mod Running
pub mod Serving
pub mod lemmas
