pub mod Turns
pub mod Past
pub mod Output
pub mod Demand
pub mod Product
pub mod Memory
pub mod Exports
pub mod Wire
