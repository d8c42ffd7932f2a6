pub mod PadNone
pub mod Lanes
