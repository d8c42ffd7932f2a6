pub mod MovedGroups
pub mod PickedLanes
