pub mod Items
pub mod Tools
