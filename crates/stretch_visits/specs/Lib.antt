pub mod Worth
pub mod Counts
pub mod Private
