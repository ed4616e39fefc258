pub mod Changed
pub mod Named
