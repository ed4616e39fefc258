pub mod Publishing
pub mod RouteRow
pub mod RouteWords
pub mod Seen
pub mod WordSteps
