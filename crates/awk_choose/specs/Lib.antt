pub mod Choice
pub mod Ends
