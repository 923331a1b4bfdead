-- The laws that the proofs of this crate share.
pub mod Entered
pub mod Asked
pub mod Turns
pub mod Whole
