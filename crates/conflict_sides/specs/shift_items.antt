pub mod Order
pub mod Codes
pub mod Left
pub mod Steps
