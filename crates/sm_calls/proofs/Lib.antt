pub mod Calling
pub mod Coming
pub mod Doors
pub mod Replying
pub mod Travelling
