-- Lemmas that the proofs of crates above cite.
pub mod Acks
pub mod Footing
pub mod Growth
pub mod Heads
pub mod Heart
pub mod Logs
pub mod Numbers
pub mod Parts
pub mod Records
pub mod Seen
pub mod Views
pub mod Whole
