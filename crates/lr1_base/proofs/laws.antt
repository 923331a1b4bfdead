pub mod Bools
pub mod Lists
