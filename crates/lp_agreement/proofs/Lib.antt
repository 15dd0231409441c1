pub mod Telling
pub mod Composed
