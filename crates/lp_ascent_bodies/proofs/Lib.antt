pub mod Chains
pub mod Behind
