pub mod Delivered
pub mod Rules
pub mod Tables
pub mod Decisions
pub mod Lists
pub mod Cases
pub mod Causes
