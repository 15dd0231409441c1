pub mod TextLines
pub mod Laws
