pub mod ValueText
pub mod Buffers
pub mod PackedText
pub mod ArrayText
pub mod LayoutText
pub mod TypeText
pub mod FaultText
