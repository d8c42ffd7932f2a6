pub mod CauseLaws
pub mod Walks
pub mod TypeWalks
pub mod JudgedTypes
pub mod GivenTypes
pub mod KindLaws
pub mod IndexLaws
pub mod SpoilLimits
mod Worked
