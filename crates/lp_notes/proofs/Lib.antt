pub mod Parsed
pub mod TableRows
pub mod Walks
