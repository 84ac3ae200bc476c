pub mod Silences
pub mod Widening
pub mod Driving
pub mod Written
pub mod Looking
pub mod Known
pub mod Reading
pub mod Meaning
