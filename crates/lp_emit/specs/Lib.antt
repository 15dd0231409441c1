pub mod Causes
pub mod Clashes
pub mod Lists
pub mod Misfits
pub mod Steps
pub mod Growing
pub mod Texts
