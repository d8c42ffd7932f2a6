pub mod Choice
pub mod Layouts
pub mod Asked
pub mod Answer
pub mod Examples
pub mod End
pub mod Leading
