pub mod RawLaws
pub mod LoadLaws
pub mod ReadLaws
