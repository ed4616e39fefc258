pub mod Calls
pub mod Codes
pub mod Opening
pub mod Reading
pub mod Requests
pub mod Routes
pub mod Words
