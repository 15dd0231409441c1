pub mod Elements
pub mod PartLists
pub mod Weights
