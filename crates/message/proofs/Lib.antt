pub mod Rule
pub mod Order
