pub mod TestLaws
pub mod RangeLaws
pub mod LevelTypes
pub mod PlaceLaws
