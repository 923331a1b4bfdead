pub mod Reads
pub mod Listing
pub mod Again
pub mod Gathers
