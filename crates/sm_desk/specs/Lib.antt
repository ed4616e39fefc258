pub mod Desk
pub mod lemmas
