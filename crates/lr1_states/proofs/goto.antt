pub mod Steps
pub mod Laws
pub mod Found
