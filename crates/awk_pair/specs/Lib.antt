pub mod Outcomes
pub mod Unequal
