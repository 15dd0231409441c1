pub mod Cuts
pub mod Ends
pub mod Parsed
pub mod Parting
pub mod Pieces
pub mod Rows
