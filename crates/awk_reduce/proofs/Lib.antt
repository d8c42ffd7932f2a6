mod Worked
pub mod ExtremeLaws
pub mod ColumnLaws
pub mod SpanLaws
pub mod ReadyLaws
pub mod PlaceLaws
pub mod ListLaws
pub mod PlainLaws
pub mod OptionLaws
pub mod LengthLaws
