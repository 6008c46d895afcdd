pub mod Export
