pub mod Following
pub mod Listing
pub mod Deciding
pub mod Explaining
pub mod Printing
pub mod Examples
pub mod Theorems
