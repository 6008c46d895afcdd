pub mod Meaning
pub mod Control
pub mod Decisions
pub mod Effects
