pub mod Laws
pub mod Exact
pub mod Startable
