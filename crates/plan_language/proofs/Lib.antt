pub mod Counting
pub mod Exactly
pub mod MovesLeft
pub mod Printed
pub mod Pushed
pub mod Put
pub mod Reading
pub mod Usual
