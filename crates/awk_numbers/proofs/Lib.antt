pub mod ProductLaws
pub mod PartLaws
pub mod TallyLaws
pub mod ExtremeLaws
pub mod SumLaws
pub mod PlaceLaws
