pub mod PartTypes
