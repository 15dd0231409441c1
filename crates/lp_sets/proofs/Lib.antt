pub mod FirstTableLemmas
pub mod Listing
pub mod Order
pub mod TokenLists
pub mod WordSteps
pub mod Words
