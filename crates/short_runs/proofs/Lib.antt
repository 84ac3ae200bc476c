pub mod Order
pub mod Told
pub mod Listing
pub mod Least
pub mod Splitting
pub mod Exact
pub mod Theorems
pub mod Worked
