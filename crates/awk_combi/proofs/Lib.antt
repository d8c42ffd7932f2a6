mod Worked
pub mod TypeLaws
pub mod SpanLaws
pub mod TupleLaws
pub mod SlotNodes
