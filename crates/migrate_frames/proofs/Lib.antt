pub mod Again
pub mod Apart
pub mod Canonical
pub mod Many
pub mod NoEmptyCollections
pub mod Repeats
pub mod Written
