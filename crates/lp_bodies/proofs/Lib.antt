pub mod Branches
pub mod Calls
pub mod Patterns
pub mod Takes
