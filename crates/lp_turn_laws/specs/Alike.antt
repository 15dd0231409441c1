pub mod Looks
pub mod Symbols
pub mod Answered
pub mod Course
pub mod Runs
