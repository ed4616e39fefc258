pub mod Seeing
pub mod Storing
