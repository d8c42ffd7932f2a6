pub mod Sides
pub mod Numbers
pub mod Single
pub mod Blocks
pub mod Optional
pub mod Choice
pub mod Selection
pub mod Lanes
