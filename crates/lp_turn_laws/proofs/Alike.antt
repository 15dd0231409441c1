pub mod Bounds
pub mod Counted
pub mod Rates
pub mod Places
pub mod Looked
pub mod Reduced
pub mod Turns
pub mod Runs
