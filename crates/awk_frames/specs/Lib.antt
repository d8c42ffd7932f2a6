pub mod Shape
pub mod View
pub mod Sizes
pub mod Framed
