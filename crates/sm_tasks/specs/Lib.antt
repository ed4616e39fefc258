pub mod Approvals
pub mod Caps
pub mod Domains
pub mod Groups
