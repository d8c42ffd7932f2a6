pub mod Paired
pub mod Pairs
pub mod First
pub mod Answer
pub mod Types
pub mod Typed
