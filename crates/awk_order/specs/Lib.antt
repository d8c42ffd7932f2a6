pub mod Order
pub mod Sort
pub mod Lists
pub mod Nulls
pub mod Cells
