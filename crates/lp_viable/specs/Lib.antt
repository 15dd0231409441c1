pub mod Fillings
pub mod Least
pub mod StepTests
pub mod Held
pub mod Viable
pub mod Misfits
pub mod Dead
