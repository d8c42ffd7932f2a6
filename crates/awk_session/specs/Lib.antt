pub mod State
pub mod StateView
pub mod Replies
pub mod Leaves
pub mod Cost
pub mod Spending
