pub mod Members
pub mod AllTold
