pub mod Emissions
pub mod Firsts
