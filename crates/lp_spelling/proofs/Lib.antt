pub mod Counting
pub mod Cursors
pub mod HoleSteps
pub mod Fitting
pub mod Spelled
pub mod Reading
pub mod Exact
pub mod Tables
