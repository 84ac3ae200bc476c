pub mod Sheet
pub mod ReadBack
