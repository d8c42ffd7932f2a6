pub mod CarryLaws
pub mod GroupLaws
pub mod LiftLaws
pub mod SideLaws
mod WorkedMerging
