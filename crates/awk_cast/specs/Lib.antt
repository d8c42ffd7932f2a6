pub mod Cast
pub mod Levels
pub mod Casting
