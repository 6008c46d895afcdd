pub mod Lists
pub mod Numbers
pub mod Puts
pub mod Cells
pub mod Areas
pub mod Slices
