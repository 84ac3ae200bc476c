pub mod Explanation
pub mod Pieces
pub mod Private
