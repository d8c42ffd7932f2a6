pub mod ReadBack
pub mod Back
