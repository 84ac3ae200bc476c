pub mod Each
pub mod Numbers
pub mod Points
pub mod Stretches
pub mod Lines
pub mod Limits
pub mod Reading
pub mod Theorems
