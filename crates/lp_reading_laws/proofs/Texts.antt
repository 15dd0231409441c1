pub mod Parts
pub mod Shown
pub mod Law
pub mod Begun
pub mod Existing
