pub mod Machine
pub mod Agrees
pub mod Emission
