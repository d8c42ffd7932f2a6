pub mod Weights
pub mod RangeParts
mod RangeWorked
