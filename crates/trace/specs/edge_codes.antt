pub mod Codes
pub mod Coded
pub mod Carried
pub mod Kinds
pub mod Lent
