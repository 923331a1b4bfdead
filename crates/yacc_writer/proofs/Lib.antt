pub mod Laws
pub mod Texts
pub mod Turns
pub mod Round
