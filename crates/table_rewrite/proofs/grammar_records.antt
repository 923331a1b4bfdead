pub mod Packed
pub mod Owned
pub mod Areas
pub mod Symbols
