pub mod Suffix
pub mod Joined
pub mod Built
pub mod Numbers
