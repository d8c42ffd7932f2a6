mod Worked
pub mod Falls
pub mod HeightLaws
pub mod CoverLaws
pub mod FrameLaws
pub mod SizedLaws
pub mod ArrayLaws
