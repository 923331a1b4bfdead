pub mod Groups
pub mod Entries
