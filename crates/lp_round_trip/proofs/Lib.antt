pub mod Comments
pub mod Codes
pub mod Printed
pub mod Law
pub mod BackEnds
