pub mod Leaves
pub mod Extremes
pub mod Reducers
pub mod Orders
pub mod Histograms
