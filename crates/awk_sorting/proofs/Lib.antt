mod Compare
pub mod InsertLaws
pub mod UniqueLaws
pub mod PartLaws
pub mod LaneLaws
mod GroupLaws
pub mod KeyLaws
pub mod CellLaws
pub mod NullLaws
