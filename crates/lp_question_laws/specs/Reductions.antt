pub mod Stacks
pub mod Outer
pub mod Lined
pub mod Arguments
pub mod Outcomes
pub mod Premises
