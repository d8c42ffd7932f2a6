pub mod FillLaws
pub mod NumberLaws
mod WorkedFill
