pub mod Caused
mod Few
pub mod LinesTold
mod Reporting
mod Supported
mod Tabled
pub mod Telling
pub mod TextTold
mod OneTerminal
mod ByTables
