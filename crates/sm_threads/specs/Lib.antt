pub mod Beginning
pub mod Calls
pub mod Loads
pub mod Refusals
pub mod Runs
pub mod Sessions
