pub mod Stored
pub mod Packed
pub mod Same
