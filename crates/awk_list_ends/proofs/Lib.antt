pub mod SpanLaws
pub mod KeptItems
pub mod EndLaws
pub mod TotalLaws
pub mod FillingLaws
pub mod InsideLaws
mod Worked
