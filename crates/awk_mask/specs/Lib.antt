pub mod PutMask
pub mod MaskLeaves
pub mod MaskedArrays
pub mod MaskTypes
