pub mod Layout
pub mod Contract
pub mod Trace
pub mod HandedOn
pub mod Tool
pub mod Before
