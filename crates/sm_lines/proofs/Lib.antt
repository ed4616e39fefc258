pub mod Pieces
pub mod LineLemmas
pub mod Writing
pub mod AnswerLemmas
pub mod Openings
pub mod Stops
pub mod Watches
pub mod Refusals
