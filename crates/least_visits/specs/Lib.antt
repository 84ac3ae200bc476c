pub mod Least
pub mod Private
