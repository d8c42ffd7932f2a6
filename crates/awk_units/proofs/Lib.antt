pub mod UnitProgress
pub mod UnitsTaken
pub mod UnitsStop
pub mod UnitEnds
pub mod UnitParts
pub mod Runs
