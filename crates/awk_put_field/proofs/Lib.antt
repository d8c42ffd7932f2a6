pub mod PutLaws
pub mod ThereLaws
pub mod OptionLaws
pub mod RowLaws
pub mod DepthLaws
pub mod LimitLaws
