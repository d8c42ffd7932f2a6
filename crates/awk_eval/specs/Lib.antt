pub mod Bindings
pub mod Variables
pub mod Entries
pub mod Ranges
pub mod Eval
pub mod Views
pub mod Heights
