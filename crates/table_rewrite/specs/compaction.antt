pub mod Compaction
pub mod Outcome
pub mod InUse
pub mod Passes
