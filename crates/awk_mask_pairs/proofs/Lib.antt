pub mod MaskTypes
pub mod Rows
pub mod ValueLaws
pub mod TypeLaws
pub mod LevelLaws
pub mod MaskingLaws
pub mod PairedLaws
pub mod UnsizedLaws
