mod Blocks
pub mod Courses
