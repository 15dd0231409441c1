pub mod Numbers
pub mod Places
pub mod Notes
pub mod Modules
