-- Lemmas that the proofs of crates above cite.
pub mod Answering
pub mod Rewording
pub mod Taking
