pub mod Worked
pub mod LineLaws
