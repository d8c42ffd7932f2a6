pub mod FlatLists
pub mod PutLaws
pub mod MaskLaws
pub mod BesideLaws
pub mod KeptLanes
