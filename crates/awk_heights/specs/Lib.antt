pub mod Low
pub mod Levels
pub mod Contents
