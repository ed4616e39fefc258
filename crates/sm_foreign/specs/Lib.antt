pub mod Chiefs
pub mod Holding
pub mod Refusals
pub use Rattle.sm_control.specs.Controls
