mod NumberLaws
mod CountLaws
mod FindLaws
pub mod BestLaws
pub mod FirstLaws
mod HalvesLaws
mod TruthLaws
mod KeyLaws
mod KeyedLaws
mod PlacedLaws
