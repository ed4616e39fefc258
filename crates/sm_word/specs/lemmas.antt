-- Lemmas that the proofs of crates above cite.
pub mod Digits
pub mod Histories
pub mod Words
