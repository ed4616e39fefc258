pub mod Controls
pub mod Routes
