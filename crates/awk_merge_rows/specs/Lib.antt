pub mod Present
pub mod Parts
pub mod Tagged
pub mod OptionLevels
pub mod PresentLevels
pub mod RowLevels
pub mod UnionLevels
