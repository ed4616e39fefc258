-- The lemmas on histories that proofs of crates above cite.
pub mod Ceilings
pub mod Faults
pub mod Growth
pub mod Lasting
pub mod Requests
