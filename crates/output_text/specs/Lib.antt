pub mod conflict_lines
pub mod table_text
pub use Rattle.lr1_base.specs.numerals
pub use Rattle.lr1_base.specs.repr
pub use Rattle.table.specs.Words
pub use Rattle.conflict_sides.specs.conflict
