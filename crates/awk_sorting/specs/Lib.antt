pub mod Cells
pub mod Order
pub mod Lanes
pub mod Nulls
pub mod Parts
