pub mod HeightLaws
pub mod EmptyLaws
pub mod DepthLaws
pub mod LimitLaws
