pub mod Modules
pub mod Programs
pub mod Shifts
