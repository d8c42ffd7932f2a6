pub mod PromotionLaws
pub mod RangeLaws
