pub mod Computes
pub mod Names
pub mod Layouts
pub mod Sound
pub mod Order
pub mod Again
pub mod Back
pub mod Reread
