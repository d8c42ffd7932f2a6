pub mod UnionItems
pub mod PlainNodes
pub mod SpreadUnions
