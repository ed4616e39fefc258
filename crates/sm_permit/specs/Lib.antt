pub mod Permits
pub mod Runs
pub mod Timelines
pub mod Views
pub mod Waits
