-- What the contracts cite.
pub mod Symbols
