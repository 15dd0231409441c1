pub mod Ends
pub mod Slots
pub mod Printed
