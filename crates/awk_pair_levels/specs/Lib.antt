pub mod InRow
pub mod Inner
pub mod Shares
pub mod Single
