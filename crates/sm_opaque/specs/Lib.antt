pub mod Opaque
pub mod Places
pub mod lemmas
