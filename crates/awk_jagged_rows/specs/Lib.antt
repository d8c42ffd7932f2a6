pub mod RowTypes
pub mod Sides
pub mod RowLists
pub mod Rows
pub mod Levels
pub mod Alone
pub mod InOrder
