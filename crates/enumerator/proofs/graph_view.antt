pub mod Trial
pub mod Steps
pub mod Stepping
pub mod Counting
pub mod Owner
pub mod Made
pub mod Labelling
pub mod Viewing
