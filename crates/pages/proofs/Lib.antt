pub mod Lines
pub mod Columns
pub mod Sheets
pub mod Reading
pub mod Texts
pub mod Theorems
pub mod Examples
