pub mod Rows
pub mod Whole
pub mod Answering
pub mod Telling
pub mod DriverEnds
