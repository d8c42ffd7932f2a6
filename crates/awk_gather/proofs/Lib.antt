pub mod FollowedIndexes
pub mod PickedNodes
pub mod AlikeNodes
pub mod OptionItems
pub mod PeeledNodes
pub mod ArrayAnswers
pub mod GatheredArrays
pub mod RowIndexes
