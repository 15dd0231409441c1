pub mod Filled
pub mod Call
pub mod Ascent
