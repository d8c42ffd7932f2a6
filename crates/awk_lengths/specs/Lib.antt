pub mod TextBytes
pub mod LineBytes
