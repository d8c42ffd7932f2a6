pub mod Counted
pub mod Narrow
pub mod Present
