pub mod History
pub mod Reach
pub mod Routes
pub mod Rules
pub mod Tables
pub mod lemmas
