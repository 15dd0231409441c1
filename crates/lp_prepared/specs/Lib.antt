pub mod Causes
pub mod Command
pub mod Outputs
pub mod Told
pub mod LinesTold
pub mod TextTold
pub mod Runs
