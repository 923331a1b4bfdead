use Rattle.std.proofs.Common.{◌≡◌, ◌+◌, ◌*◌, ◌≤◌, length, drop}
use Rattle.std.specs.Iterator.Adapters.{enumerate_source, enumerate_count}
use Rattle.std.specs.Slice.Iter.{chunks_exact_rest, chunks_exact_size}
use Rattle.lr1_base.specs.repr.Meaning.{Table}
use Rattle.lr1_base.specs.repr.Listed.{listed}
use Rattle.table_rewrite.specs.spelling.Spelled.{chain_from, symbol_quad, quads}
use Rattle.table_rewrite.specs.spelling.Grown.{Room, Stands}
use Rattle.table_rewrite.proofs.grammar_records.Symbols.{Chain, Written}
use Rattle.table_rewrite.proofs.grammar_records.write_chain.Given as goal

abbrev pub invariant-loop-i : goal.invariant-loop-i
invariant-loop-i l = record {
  size : chunks_exact_size (enumerate_source l.i-iterator) ≡ 2;
  few : 2 * enumerate_count l.i-iterator ≤ length l.symbols;
  rest : drop (2 * enumerate_count l.i-iterator) l.symbols ≡ chunks_exact_rest (enumerate_source l.i-iterator);
  chain : Chain l.symbols l.begin (l.begin + enumerate_count l.i-iterator) (2 * enumerate_count l.i-iterator);
  written : (U : Table) → Stands (quads U) l.begin (chain_from symbol_quad l.begin (listed l.symbols)) → Room U l.initial.out → Written U l.symbols l.initial.out l.out l.begin (l.begin + enumerate_count l.i-iterator) (2 * enumerate_count l.i-iterator);
}
