pub mod PadGiven
pub mod PadWhole
mod Worked
