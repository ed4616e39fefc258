-- The lemmas that proofs of crates above cite.
pub mod Cuts
pub mod KeyOrders
pub mod Keyed
pub mod Layouts
