pub mod MovedBits
