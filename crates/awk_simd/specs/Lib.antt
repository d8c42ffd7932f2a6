pub mod Flags
pub mod Firsts
pub mod Divisor
