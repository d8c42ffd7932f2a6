pub mod Bins
pub mod Hist
pub mod HistEach
pub mod Lists
pub mod Rows
pub mod Totals
