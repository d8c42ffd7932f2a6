pub mod Asked
pub mod ListedLaws
pub mod FramingLaws
