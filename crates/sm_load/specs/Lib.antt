pub mod IncCounts
pub mod Loads
