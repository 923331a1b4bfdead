pub mod Copy
pub mod Insert
pub mod Lent
pub mod Same
pub mod Put
