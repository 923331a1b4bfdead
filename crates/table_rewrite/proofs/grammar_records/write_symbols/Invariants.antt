use mathlib.Core.Path.{◌≡◌}
use Rattle.lr1_base.specs.repr.Meaning.{Table}
use Rattle.table_rewrite.specs.spelling.Spelled.{symbols_at}
use Rattle.table_rewrite.specs.spelling.Grown.{Room}
use Rattle.table_rewrite.specs.grammar_records.Target.{PackedAs}
use Rattle.table_rewrite.proofs.grammar_records.Symbols.{Walk}
use Rattle.table_rewrite.proofs.grammar_records.write_symbols.Given as goal

abbrev pub invariant-loop-p : goal.invariant-loop-p
invariant-loop-p l = (U : Table) → PackedAs U l.grammar.words.now l.grammar.productions → l.begin ≡ symbols_at U → Room U l.initial.out → Walk U l.initial.out l.out l.at l.p
