mod WorkedPlaces
pub mod RisingLaws
pub mod Paths
pub mod Levels
pub mod FlatLaws
pub mod BegunLaws
pub mod SlotLaws
pub mod PlaceLists
pub mod RunLaws
pub mod ProductLaws
pub mod Quotients
pub mod GroupLaws
pub mod PairLaws
