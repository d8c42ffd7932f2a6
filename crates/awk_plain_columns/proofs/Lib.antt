pub mod SuitedLaws
pub mod ListColumns
pub mod OptionColumns
pub mod RecordLaws
pub mod RecordColumns
