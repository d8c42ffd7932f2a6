pub mod SuffixLaws
pub mod LiftSteps
pub mod SideLaws
pub mod SingleLaws
pub mod BuiltLaws
pub mod NumberLaws
pub mod SuitedArrays
