pub mod TreeTexts
pub mod MachineFields
pub mod CatchAll
pub mod Members
pub mod Ranges
