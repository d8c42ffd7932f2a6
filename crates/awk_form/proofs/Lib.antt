pub mod Breaks
pub mod FormTexts
pub mod LawfulReads
pub mod Levels
pub mod Nodes
pub mod Refusals
pub mod Types
pub mod Values
pub mod Views
pub mod Words
mod Worked
