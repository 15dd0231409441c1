pub mod Each
pub mod Blanks
pub mod Parts
pub mod Walking
