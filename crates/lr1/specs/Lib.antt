pub mod Entries
pub mod Edges
pub mod Textbook
pub mod Joining
pub use Rattle.lr1_base.specs.repr
pub use Rattle.table.specs.Checked
pub use Rattle.table.specs.Decoded
pub use Rattle.table.specs.Refusals
pub use Rattle.table_rewrite.specs.compaction
pub use Rattle.table_rewrite.specs.spelling
pub use Rattle.first.specs.First
pub use Rattle.trace_graph.specs.Nodes
pub use Rattle.lr1_tables.specs.Outcome
pub use Rattle.trace.specs.Built
pub use Rattle.trace.specs.Outcome as TraceOutcome
pub use Rattle.yacc_reader.specs.parsed_file
pub use Rattle.yacc_writer.specs.text
