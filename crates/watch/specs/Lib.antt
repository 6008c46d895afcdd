pub mod Marks
pub mod Course
