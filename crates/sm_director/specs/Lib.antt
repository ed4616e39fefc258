pub mod Calls
pub mod Directors
pub mod Kinds
pub mod Lending
pub mod Refusals
pub mod Resettlings
