pub mod Promotion
pub mod Fits
pub mod Worked
