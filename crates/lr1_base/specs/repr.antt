pub mod Sizes
pub mod Lists
pub mod Meaning
pub mod Listed
pub mod Packed
pub mod Reply
pub mod Symbols
