pub mod MaskLeaves
pub mod ClassLaws
pub mod AnyLengthLaws
pub mod DepthLaws
pub mod MaskFaults
pub mod MadeLaws
mod Worked
pub mod MaskBytes
