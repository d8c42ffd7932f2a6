pub mod SettleLaws
pub mod SettleLimits
pub mod TypeWalks
pub mod ChoiceTypes
pub mod ChoiceValues
pub mod FirstItems
pub mod ChoiceLayouts
pub mod ChoiceItems
pub mod ChoiceNodes
pub mod ChosenNodes
pub mod Beside
pub mod RowSteps
pub mod FoundSteps
pub mod LeadingLaws
pub mod ViewLaws
pub mod SettledItems
pub mod Ends
mod SettledWorked
