mod Worked
pub mod TypeLaws
pub mod PairLaws
pub mod PickedTypes
pub mod FlatItems
pub mod OverLaws
pub mod LeafTypes
pub mod LeafLaws
pub mod PickLaws
pub mod ToldLaws
pub mod FinalLaws
pub mod BesideLaws
