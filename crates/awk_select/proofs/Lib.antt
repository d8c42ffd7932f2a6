pub mod Worked
pub mod RangePlaces
pub mod ValueLaws
pub mod SieveLaws
pub mod PickedPlaces
pub mod PickAnswers
