pub mod Asking
pub mod Readings
pub mod DriverCall
pub mod DriverCallLaw
