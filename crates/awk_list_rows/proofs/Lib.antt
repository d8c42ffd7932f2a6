pub mod WholeLaws
pub mod InRowLaws
pub mod EndLaws
