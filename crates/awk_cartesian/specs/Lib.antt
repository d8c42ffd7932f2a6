pub mod Cartesian
pub mod Sources
pub mod Spans
pub mod Products
