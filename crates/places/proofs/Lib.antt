pub mod Areas
pub mod Marks
