mod Worked
pub mod RowLaws
pub mod LevelLaws
mod FirstLaws
pub mod TypeLaws
pub mod TypedLaws
