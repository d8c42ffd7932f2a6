pub mod Plain
pub mod IsPlain
pub mod Judged
pub mod Types
pub mod Suits
pub mod Standing
