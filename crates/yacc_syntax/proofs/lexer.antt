pub mod Bytes
pub mod Runs
pub mod Laws
