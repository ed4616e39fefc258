-- Lemmas that the code and the proofs of crates above cite.
pub mod Reads
