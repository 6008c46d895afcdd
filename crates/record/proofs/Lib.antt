pub mod Arms
pub mod Parts
mod Times
