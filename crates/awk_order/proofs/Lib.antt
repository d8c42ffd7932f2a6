mod WorkedOrder
mod WorkedSorts
pub mod ValueLaws
pub mod ListLaws
pub mod NodeLaws
pub mod NullLaws
pub mod CellLaws
