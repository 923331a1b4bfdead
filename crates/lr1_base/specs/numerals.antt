-- What the contracts cite.
pub mod Numeral
