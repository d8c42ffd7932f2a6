pub mod Ends
pub mod Kept
pub mod Total
pub mod Filling
pub mod Inside
