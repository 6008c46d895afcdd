pub mod Put
pub mod Cells
pub mod Areas
