mod Worked
pub mod OpeningLaws
pub mod RowLaws
pub mod CountLaws
pub mod AnswerLaws
pub mod TypeLaws
pub mod WholeLaws
