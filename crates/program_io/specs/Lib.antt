pub mod streams
pub mod table_stream
pub use Rattle.lr1_base.specs.repr
