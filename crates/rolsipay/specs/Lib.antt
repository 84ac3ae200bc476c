pub mod Lent
pub mod Reading
pub mod Calling
pub mod Face
