pub mod Meaning
pub mod Inner
