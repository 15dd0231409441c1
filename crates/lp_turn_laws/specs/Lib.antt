pub mod Paths
pub mod Alike
pub mod Asked
