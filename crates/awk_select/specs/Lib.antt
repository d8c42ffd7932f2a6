pub mod Places
pub mod Picks
pub mod Cells
pub mod Kept
