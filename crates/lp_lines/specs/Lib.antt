pub mod Blocks
pub mod File
pub mod Scan
pub mod TokenLines
pub mod Vocabularies
