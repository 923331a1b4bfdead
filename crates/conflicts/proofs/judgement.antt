pub mod Reading
pub mod Ways
pub mod Sides
