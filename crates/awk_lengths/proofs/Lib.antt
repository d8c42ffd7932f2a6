pub mod AtMost
pub mod Contents
pub mod Lexemes
pub mod Grammar
pub mod Values
pub mod LineLaws
