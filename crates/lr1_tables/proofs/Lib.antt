pub mod Written
pub mod Canonical
pub mod Ways
pub mod Found
pub mod Laid
