pub mod Lines
pub mod Whole
pub mod States
