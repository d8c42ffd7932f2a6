pub mod ResultLaws
pub mod ColumnLaws
pub mod SideLaws
pub mod AnswerLaws
pub mod UnderLaws
pub mod BinaryLaws
pub mod PairedLaws
pub mod LiteralLaws
pub mod UnaryLaws
mod Worked
