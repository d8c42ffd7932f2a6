pub mod FitLaws
pub mod SpanLaws
pub mod ElementLaws
pub mod WindowLaws
