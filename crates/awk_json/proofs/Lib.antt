pub mod Base64
pub mod Escapes
pub mod Joins
pub mod Lines
pub mod Puts
