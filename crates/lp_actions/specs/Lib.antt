pub mod Parameters
pub mod Inlines
pub mod ActionFunctions
