pub mod Tuples
pub mod Sources
pub mod Slots
