pub mod Lanes
pub mod Moved
