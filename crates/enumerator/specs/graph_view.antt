pub mod View
pub mod Trial
pub mod Steps
pub mod Blank
