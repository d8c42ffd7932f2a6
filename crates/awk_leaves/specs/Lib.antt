pub mod LeafTypes
pub mod Table
pub mod Values
