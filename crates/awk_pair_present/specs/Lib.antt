pub mod Held
pub mod Presence
pub mod Present
