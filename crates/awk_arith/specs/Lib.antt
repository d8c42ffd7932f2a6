pub mod AtLeaves
pub mod Binary
pub mod Unary
pub mod Sides
