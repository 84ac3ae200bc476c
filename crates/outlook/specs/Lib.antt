pub mod Loads
pub mod Ahead
pub mod Plans
pub mod Quiets
pub mod Private
