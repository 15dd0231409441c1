pub mod Modules
pub mod Parsers
pub mod TokenModules
pub mod Generators
pub mod ModuleCalls
pub mod Printing
pub mod Texts
