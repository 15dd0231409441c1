pub mod Forms
pub mod Templates
pub mod Classes
