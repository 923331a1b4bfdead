pub mod Tokens
pub mod Answered
pub mod Choices
