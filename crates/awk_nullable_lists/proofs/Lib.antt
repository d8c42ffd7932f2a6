mod NullableLaws
mod ElementLaws
mod MarkLaws
