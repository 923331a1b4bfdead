pub mod Outline
pub mod Kept
pub mod Inline
pub mod Lent
