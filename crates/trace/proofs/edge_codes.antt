pub mod Keys
pub mod Coding
pub mod Least
pub mod Decoded
pub mod Writing
pub mod KindLaws
pub mod Answered
pub mod Lent
