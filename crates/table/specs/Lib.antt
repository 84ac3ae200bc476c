pub mod Accepting
pub mod Table
pub mod Reading
pub mod Lent
pub mod Private
