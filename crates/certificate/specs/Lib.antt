pub mod Readings
pub mod Sentences
pub mod Sets
pub mod Shown
pub mod Brackets
