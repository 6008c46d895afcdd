pub mod Memory
pub mod Shared
