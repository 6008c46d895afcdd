pub mod Areas
pub mod Says
pub mod Walks
pub mod Ticks
pub mod Places
pub mod Rulings
pub mod Ends
