pub mod Parts
pub mod Blocks
pub mod KeyMaps
pub mod Ranges
pub mod Spans
pub mod Entries
pub mod Search
pub mod Indexes
pub mod Edits
mod Positions
