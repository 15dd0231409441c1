pub mod Courses
pub mod Blocks
