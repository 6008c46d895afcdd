pub mod Region
pub mod Said
