pub mod CarriedLists
pub mod ListLaws
pub mod MadePlaces
pub mod NumberLaws
pub mod OpenedLists
pub mod RegularLaws
pub mod PartedLaws
