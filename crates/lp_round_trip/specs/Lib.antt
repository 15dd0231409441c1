pub mod Codes
pub mod Laws
pub mod BackEnds
pub mod Lawful
