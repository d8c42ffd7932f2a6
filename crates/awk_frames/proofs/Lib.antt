pub mod Views
pub mod ValueLists
pub mod FramedItems
pub mod FrameLaws
mod AlikeNodes
mod NodeLaws
mod Worked
