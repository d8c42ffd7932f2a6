pub mod Reducers
pub mod Reduce
pub mod Lists
pub mod Totals
pub mod Nullable
