pub mod LeafLaws
pub mod SliceLaws
pub mod FlagLaws
pub mod TakenLanes
pub mod NamedLaws
pub mod PresentLaws
