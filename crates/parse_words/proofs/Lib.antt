-- The laws that the proofs share.
pub mod Steps
pub mod Scans
