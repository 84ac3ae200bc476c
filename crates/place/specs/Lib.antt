pub mod Pieces
pub mod Stack
pub mod Spans
pub mod Times
pub mod Plans
pub mod Lent
pub mod Private
