pub mod FillNone
pub mod Filled
