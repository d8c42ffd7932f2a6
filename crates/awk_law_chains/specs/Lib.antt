pub mod Arrays
pub mod Innermost
