pub mod Exact
pub mod States
pub mod Steps
pub mod Hits
pub mod Along
pub mod Joined
pub mod Merged
