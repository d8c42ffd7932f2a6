pub mod ListNumbers
pub mod NamedPlaces
