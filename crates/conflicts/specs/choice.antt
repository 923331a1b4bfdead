pub mod Words
pub mod Choosing
