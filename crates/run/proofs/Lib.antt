pub mod Pieces
pub mod Areas
