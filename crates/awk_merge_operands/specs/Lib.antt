pub mod Concatenate
pub mod Operands
