pub mod ListPlaces
