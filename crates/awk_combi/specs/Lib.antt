pub mod Combinations
pub mod Spans
pub mod Slots
