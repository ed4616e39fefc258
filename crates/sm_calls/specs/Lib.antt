pub mod Calls
pub mod Exchanging
pub mod Passes
pub mod Replies
pub mod Since
pub mod Telling
pub mod Ways
pub mod lemmas
