pub mod IsNone
pub mod Lanes
pub mod DropNone
pub mod Firsts
pub mod Singletons
