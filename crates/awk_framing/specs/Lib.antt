pub mod Framing
pub mod Needs
pub mod ReadView
pub mod Listed
