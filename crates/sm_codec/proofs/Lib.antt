pub mod Batches
pub mod Controls
pub mod FieldLemmas
pub mod Heads
pub mod Loop
pub mod Parts
pub mod Records
