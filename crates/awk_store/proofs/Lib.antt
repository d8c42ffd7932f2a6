pub mod ByKeyLaws
pub mod Kept
mod Examples
