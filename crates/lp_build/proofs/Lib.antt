pub mod Nodes
pub mod Pops
pub mod Tokens
