pub mod SlotLaws
pub mod TupleLaws
