pub mod Plans
pub mod Private
