pub mod MergedLaws
pub mod PartTypeLaws
pub mod TypeParts
