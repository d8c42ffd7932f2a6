pub mod Levels
pub mod Sides
pub mod Rows
