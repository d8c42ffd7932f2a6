pub mod Parts
pub mod Spans
pub mod Fits
pub mod Lanes
pub mod Elements
pub mod Windows
