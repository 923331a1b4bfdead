-- The laws that the proofs share.
pub mod Laws
pub mod Numerals
pub mod Texts
pub mod Length
