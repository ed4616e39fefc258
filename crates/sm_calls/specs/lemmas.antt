-- Lemmas that the proofs of crates above cite.
pub mod Calling
pub mod Passes
pub mod Since
