pub mod Sides
pub mod Lifts
pub mod Groups
