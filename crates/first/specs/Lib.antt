pub mod First
pub mod Derives
pub mod Rust
pub use Rattle.lr1_base.specs.repr
pub use Rattle.lr1_base.specs.words
