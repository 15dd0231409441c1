pub mod Betweens
pub mod Layouts
pub mod Values
pub mod Runs
pub mod Wholes
