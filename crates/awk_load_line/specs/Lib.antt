pub mod Parts
pub mod Load
pub mod LoadCost
