pub mod Lending
pub mod Answers
pub mod Theorems
