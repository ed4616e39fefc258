pub mod Calls
pub mod Runs
pub mod Script
pub mod Sessions
