pub mod Columns
pub mod Lanes
pub mod PackedForm
pub mod Canon
pub mod Shown
pub mod Packing
