pub mod KindLaws
pub mod Slots
pub mod Controls
pub mod Deeds
pub mod Lanes
pub mod Events
pub mod Sayings
