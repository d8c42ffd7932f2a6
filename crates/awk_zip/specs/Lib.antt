pub mod Counted
pub mod Zip
