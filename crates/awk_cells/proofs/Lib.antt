pub mod ExtremeLaws
mod ExtremeParts
mod BlockLaws
mod PackedLaws
mod TruthLaws
mod SumLaws
pub mod CountLaws
