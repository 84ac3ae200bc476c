pub mod Sums
pub mod Columns
pub mod Walks
pub mod Whole
pub mod Local
pub mod Private
