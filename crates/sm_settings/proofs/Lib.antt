pub mod Gathered
pub mod Lines
pub mod Rules
pub mod Viewed
