pub mod CallList
pub use Rattle.lr1_base.specs.repr
pub use Rattle.enumerator.specs.trials
