pub mod Numbers
pub mod Present
pub mod Named
