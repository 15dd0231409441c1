pub mod Refused
mod Steps
mod Lists
mod Reached
mod Declared
mod ValidStates
