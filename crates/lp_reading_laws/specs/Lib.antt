pub mod Printing
pub mod Holes
pub mod FirstLines
pub mod Texts
pub mod Choosing
pub mod Printed
