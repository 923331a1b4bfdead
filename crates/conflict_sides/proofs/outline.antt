pub mod Prints
pub mod Upcoming
pub mod Kept
pub mod Keeping
pub mod Diverging
pub mod Labelled
