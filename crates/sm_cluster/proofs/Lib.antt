pub mod Crewing
pub mod Holding
pub mod Placing
pub mod Publishing
pub mod Stopping
pub mod Telling
