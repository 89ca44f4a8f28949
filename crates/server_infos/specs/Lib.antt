pub mod Asking
pub mod Figures
