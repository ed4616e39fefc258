pub mod Relays
pub mod Calls
pub mod Lending
