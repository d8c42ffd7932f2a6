pub mod Places
pub mod Paths
pub mod Slots
pub mod Begun
pub mod Products
pub mod Runs
pub mod Groups
