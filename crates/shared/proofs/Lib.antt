pub mod Results
pub mod Areas
