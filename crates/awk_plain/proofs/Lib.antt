mod Worked
pub mod ItemLaws
pub mod TypedLaws
pub mod TypeLaws
pub mod TypeSteps
pub mod JudgedLaws
pub mod BelowLaws
pub mod OwnNames
pub mod RowStays
pub mod JoinLaws
pub mod SuitLaws
pub mod SuitSteps
pub mod OwnValues
pub mod StandingLaws
