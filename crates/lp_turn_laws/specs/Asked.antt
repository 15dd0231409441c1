pub mod Runners
