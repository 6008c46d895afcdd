pub mod Calls
pub mod Histories
pub mod Theorem
pub mod Examples
