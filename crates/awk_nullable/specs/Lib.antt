pub mod Masks
pub mod Numbers
pub mod Totals
pub mod Extremes
pub mod Keys
pub mod Halves
