pub mod Acts
pub mod Layouts
pub mod Maps
pub mod Notes
pub mod Plans
pub mod Routes
pub mod Serving
