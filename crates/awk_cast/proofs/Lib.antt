mod Worked
pub mod TypeLaws
pub mod CoverLaws
pub mod LeafLaws
pub mod FrameLaws
pub mod EachLaws
pub mod ArrayLaws
pub mod Falls
pub mod ListLaws
