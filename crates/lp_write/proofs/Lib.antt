pub mod Adding
pub mod Each
pub mod Shows
pub mod Sinking
pub mod Texts
pub mod Writing
