pub mod BitParts
mod Worked
