pub mod FaultText
pub mod Answer
pub mod AnswerView
pub mod Told
pub mod Refusals
pub mod Shown
pub mod Sending
