pub mod Laws
pub mod Sets
pub mod Members
pub mod Words
pub mod Growing
