pub mod Helpers
pub mod Outcomes
