pub mod EvenLaws
mod NextLaws
pub mod SharedRows
mod ClassLaws
mod ShareLaws
pub mod ItemLaws
mod InRowLaws
