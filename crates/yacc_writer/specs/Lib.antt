-- What the contracts cite.
pub mod text
pub mod Wrote
pub mod Round
pub use Rattle.lr1_base.specs.numerals
pub use Rattle.lr1_base.specs.repr
pub use Rattle.table.specs.Decoded
