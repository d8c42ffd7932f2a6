pub mod GroupLaws
pub mod ResultLaws
pub mod ComparisonLaws
pub mod WideLaws
pub mod QuotientLaws
