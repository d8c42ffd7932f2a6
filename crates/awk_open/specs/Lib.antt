pub mod Opened
pub mod Settled
pub mod Inner
pub mod InOrder
pub mod Opens
pub mod Masked
