pub mod Steps
pub mod Base64Length
pub mod Lengths
pub mod SessionLaws
