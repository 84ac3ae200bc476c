pub mod PlanListing
pub mod Summary
pub mod Private
