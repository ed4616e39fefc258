pub mod Answering
pub mod Arrivals
pub mod Beginnings
pub mod Planning
pub mod Requests
pub mod Scripts
pub mod Settling
pub mod Ways
