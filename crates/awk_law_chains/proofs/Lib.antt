pub mod Limits
pub mod Places
pub mod Chains
pub mod ChainEnds
pub mod JaggedRows
pub mod AnyLength
pub mod RowsPicked
