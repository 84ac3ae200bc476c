pub mod Laws
pub mod OneLine
pub mod Signed
pub mod Theorems
pub mod Examples
