pub mod Leaves
pub mod Lists
pub mod Parted
pub mod ListLevels
