pub mod CallTexts
pub mod OutcomeTexts
pub mod PlanVerdicts
pub mod Printing
pub mod RunTexts
pub mod Writing
