pub mod WithField
pub mod Refused
