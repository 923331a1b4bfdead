pub mod Clashes
pub mod Laws
pub mod Shifts
pub mod Counts
