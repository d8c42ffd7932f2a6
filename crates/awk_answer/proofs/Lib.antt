pub mod LineEnds
pub mod Parts
pub mod PackLaws
pub mod SendingLaws
