pub mod Built
pub mod Visibilities
