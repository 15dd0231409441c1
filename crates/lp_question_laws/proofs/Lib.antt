pub mod Gotos
pub mod Tables
pub mod Tokens
pub mod Expected
pub mod Reductions
pub mod Actions
