pub mod InnermostLaws
pub mod RowLaws
pub mod ListLaws
pub mod WholeLaws
mod Worked
pub mod TotalLaws
