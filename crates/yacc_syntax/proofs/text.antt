-- The laws.
pub mod Lexing
pub mod Tokens
pub mod Exact
pub mod Examples
pub mod Forward
