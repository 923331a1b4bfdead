pub mod error_position
pub mod lexer
pub mod recognizer
pub mod text
pub use Rattle.lr1_base.specs.numerals
