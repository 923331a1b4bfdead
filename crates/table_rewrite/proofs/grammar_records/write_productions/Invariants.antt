use mathlib.Core.Path.{◌≡◌}
use Prim.Native.Nat.{◌+◌}
use Rattle.lr1_base.specs.repr.Meaning.{Table}
use Rattle.table_rewrite.specs.spelling.Spelled.{productions_at, symbols_at}
use Rattle.table_rewrite.specs.spelling.Grown.{Room}
use Rattle.table_rewrite.specs.grammar_records.Target.{PackedAs}
use Rattle.table_rewrite.proofs.grammar_records.Areas.{Rows}
use Rattle.table_rewrite.proofs.grammar_records.write_productions.Given as goal

abbrev pub invariant-loop-p : goal.invariant-loop-p
invariant-loop-p l = ((U : Table) → l.at ≡ productions_at U → l.at + l.grammar.productions ≡ symbols_at U → PackedAs U l.grammar.words.now l.grammar.productions → Room U l.initial.out → Rows U l.initial.out l.out l.at l.y l.p)
