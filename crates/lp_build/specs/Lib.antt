pub mod Built
pub mod Actions
pub mod Ascent
pub mod Frame
pub mod Functions
pub mod Machine
pub mod Reductions
pub mod Tables
