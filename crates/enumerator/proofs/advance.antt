pub mod Asking
pub mod Ends
pub mod Ways
pub mod Finding
