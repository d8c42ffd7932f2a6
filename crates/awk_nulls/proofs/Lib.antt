pub mod NullLaws
pub mod PickedColumns
pub mod FirstLaws
pub mod PresentLaws
pub mod EndCounts
pub mod SingleLaws
pub mod DropLaws
pub mod RowLaws
pub mod KeptLaws
pub mod NoneLaws
pub mod EvenLaws
mod Worked
