pub mod Jagged
pub mod Judged
pub mod Pairs
pub mod PickedAt
pub mod Outcomes
pub mod Over
