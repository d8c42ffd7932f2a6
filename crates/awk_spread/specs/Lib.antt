pub mod Plain
pub mod Spread
