pub mod Refusals
pub mod Replies
pub mod Servers
pub mod Calls
