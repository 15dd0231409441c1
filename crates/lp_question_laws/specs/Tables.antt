pub mod Symbols
pub mod Acts
