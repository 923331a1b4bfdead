pub mod Uses
pub mod Wanted
pub mod Appended
pub mod Written
pub mod Augmented
pub mod Ways
pub mod Exact
