pub mod RowTypeLaws
pub mod RangeLaws
pub mod RowEndLaws
pub mod JoinedRowLaws
pub mod NullRowLaws
