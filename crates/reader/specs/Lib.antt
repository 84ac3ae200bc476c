pub mod Outcome
pub mod Machine
pub mod Print
pub mod Records
pub mod Raw
pub mod Private
