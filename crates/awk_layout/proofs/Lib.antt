pub mod ContentTypes
pub mod LayoutTypes
pub mod Runs
pub mod TypedItems
pub mod ArrayItems
pub mod JudgedTypes
pub mod OptionItems
pub mod LayoutLists
