pub mod LeafLaws
pub mod ColumnLaws
pub mod LaneLaws
pub mod DatumLaws
