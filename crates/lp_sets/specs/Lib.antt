pub mod FirstSets
pub mod FirstTables
pub mod Members
pub mod TokenSets
