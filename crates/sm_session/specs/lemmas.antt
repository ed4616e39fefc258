-- The lemmas that proofs of crates above cite.
pub mod Lengths
