pub mod Line
pub mod LineView
pub mod AllowedLine
