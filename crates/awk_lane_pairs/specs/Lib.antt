pub mod Groups
pub mod Results
pub mod Comparisons
