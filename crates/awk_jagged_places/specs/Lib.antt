pub mod Leaves
pub mod Put
pub mod Beside
