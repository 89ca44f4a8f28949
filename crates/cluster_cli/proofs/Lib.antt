pub mod Draining
pub mod Laid
pub mod Listing
pub mod PlanAnswers
pub mod Planned
pub mod Unserved
pub mod Weighing
