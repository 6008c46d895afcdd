pub mod Exports
pub mod Determined
