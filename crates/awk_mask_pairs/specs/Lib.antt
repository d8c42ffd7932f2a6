pub mod MaskValues
pub mod MaskTypes
