-- The laws that the proofs of this crate share.
pub mod Sizes
pub mod Passed
pub mod FirstRow
pub mod Faults
pub mod Ways
pub mod Steps
pub mod Bumped
