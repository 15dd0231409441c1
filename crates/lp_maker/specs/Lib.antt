pub mod Texts
pub mod Numbers
pub mod Patterns
pub mod Slots
pub mod Constructs
pub mod Making
