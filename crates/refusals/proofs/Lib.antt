pub mod Nesting
pub mod Measures
pub mod Rulings
pub mod Refusal
pub mod Readings
pub mod Theorems
