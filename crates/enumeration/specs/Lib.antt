pub mod Enumeration
pub mod Showing
pub mod Private
