pub mod Trails
pub mod Private
