pub mod State
pub mod Calls
pub mod Private
pub mod Meaning
pub mod Cases
