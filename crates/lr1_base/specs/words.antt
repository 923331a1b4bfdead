pub mod Insert
pub mod Lent
pub mod Same
