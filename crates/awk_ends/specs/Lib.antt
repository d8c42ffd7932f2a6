pub mod Operands
pub mod Columns
