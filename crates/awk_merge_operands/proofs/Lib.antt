pub mod OperandLaws
pub mod ListPlaceLaws
pub mod StackLaws
pub mod AnswerLaws
mod Examples
