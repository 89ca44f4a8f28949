pub mod Asking
pub mod Masters
