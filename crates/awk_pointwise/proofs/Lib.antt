pub mod SideLaws
pub mod WordLaws
pub mod CalculatedLaws
pub mod RangeLaws
pub mod ReadyLaws
pub mod SingleLaws
pub mod BlockLaws
pub mod LaneLaws
pub mod ChoiceLaws
pub mod ChoiceTyped
mod SelectLaws
mod Worked
