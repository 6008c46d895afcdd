pub mod Places
pub mod Layout
pub mod Header
pub mod Output
