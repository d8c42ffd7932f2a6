pub mod LocalLaws
pub mod Singles
pub mod JoinedItems
pub mod Ends
pub mod Flattened
pub mod OneRow
pub mod SharedRows
pub mod HeldLists
pub mod MovedSpans
pub mod Leaves
pub mod Cuts
pub mod RunLaws
pub mod RunLists
mod Worked
