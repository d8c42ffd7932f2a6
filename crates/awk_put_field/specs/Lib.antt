pub mod Places
pub mod Field
pub mod There
pub mod Ends
pub mod Depths
