pub mod Gotos
pub mod GotoPlaces
pub mod GotoLaw
