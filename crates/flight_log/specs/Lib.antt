pub mod Log
pub mod Pieces
