pub mod Edges
pub mod Tallies
pub mod Near
pub mod Even
pub mod Bins
