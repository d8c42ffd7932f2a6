pub mod CountLaws
pub mod FirstPlaces
pub mod PlaceLanes
pub mod TaggedCounts
pub mod TaggedPlaces
pub mod ListLaws
pub mod PlacesBelow
