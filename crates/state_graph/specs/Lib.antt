pub mod Walk
pub mod States
pub mod Hits
pub mod Remembered
pub use Rattle.lr1_base.specs.repr
pub use Rattle.table.specs.Decoded
pub use Rattle.table.specs.Words
