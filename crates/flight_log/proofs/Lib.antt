pub mod Patterns
pub mod Calls
pub mod Lines
pub mod Pieces
pub mod Theorems
pub mod Examples
