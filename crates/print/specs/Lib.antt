pub mod Lines
pub mod Written
