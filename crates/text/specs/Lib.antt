pub mod Text
pub mod Patterns
pub mod Grammar
pub mod Spelling
pub mod Private
