pub mod FlatPlaces
pub mod RowLaws
pub mod SpanLaws
pub mod LevelLaws
pub mod EndLaws
pub mod AloneLaws
pub mod OrderLaws
