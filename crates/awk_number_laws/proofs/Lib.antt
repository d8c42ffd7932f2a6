pub mod LeafLaws
pub mod OnePaired
pub mod LeafArrays
pub mod LeafSigns
pub mod TurnedLevels
pub mod LeafTurned
pub mod LeafDivisions
pub mod LeafChoices
pub mod ChosenArrays
pub mod DoubledLevels
pub mod ChosenBeside
pub mod LeavesLaw
pub mod InnermostLists
pub mod ReducedLists
pub mod ReducedLeaves
pub mod Overflows
pub mod NumberLaws
pub mod SumLaws
pub mod SumsJoined
pub mod ExtremeLaws
pub mod ReducerLaws
pub mod ListOrders
pub mod OrderLaws
pub mod SortedAgain
pub mod SortedRows
pub mod OrdersLaw
pub mod HistogramLists
pub mod HistogramLaws
mod WorkedLeaves
mod WorkedReducers
mod WorkedOrders
mod WorkedHistograms
mod WorkedNested
