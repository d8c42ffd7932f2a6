pub mod EdgeLaws
pub mod NearLaws
pub mod EvenLaws
pub mod TallyLaws
pub mod BinLaws
pub mod CountLaws
pub mod SumLaws
