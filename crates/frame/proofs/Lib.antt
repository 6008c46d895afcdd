pub mod Tests
pub mod Headers
pub mod Fields
pub mod Contents
pub mod Built
