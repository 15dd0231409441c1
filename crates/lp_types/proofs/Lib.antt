pub mod Lefts
pub mod Steps
pub mod Lists
pub mod Spelling
pub mod Gathered
pub mod Marks
pub mod Copies
