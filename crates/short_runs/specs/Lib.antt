pub mod ShortRuns
pub mod Listing
pub mod Told
