pub mod Answering
pub mod Beginnings
pub mod Clients
pub mod Telling
pub mod Lines
