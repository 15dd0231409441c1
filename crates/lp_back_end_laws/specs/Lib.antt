pub mod Filled
pub mod Call
