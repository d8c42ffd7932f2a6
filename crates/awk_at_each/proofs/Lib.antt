pub mod Worked
pub mod EachItems
