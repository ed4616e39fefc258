-- Lemmas that the proofs of crates above cite.
pub mod Since
