pub mod Example
pub mod Labels
pub mod Written
pub mod Props
