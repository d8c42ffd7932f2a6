pub mod Sessions
pub mod WorkedCosts
