-- What the contracts cite.
pub mod choice
pub mod class_words
pub mod classification
pub mod judgement
pub mod pairs
pub mod Part
pub use Rattle.lr1_base.specs.lookahead
pub use Rattle.lr1_base.specs.repr
pub use Rattle.lr1_base.specs.words
pub use Rattle.table.specs.Decoded
pub use Rattle.enumerator.specs.example
pub use Rattle.conflict_sides.specs.conflict
pub use Rattle.conflict_sides.specs.examples
pub use Rattle.conflict_sides.specs.outline
