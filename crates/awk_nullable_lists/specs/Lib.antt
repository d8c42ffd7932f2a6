pub mod Lists
pub mod Nullable
