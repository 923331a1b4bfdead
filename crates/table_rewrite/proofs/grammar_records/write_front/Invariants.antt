use mathlib.Core.Path.{◌≡◌}
use mathlib.Core.List.{List}
use Prim.Native.Nat.{ℕ}
use lib.ListN.{length}
use Rattle.lr1_base.specs.repr.Meaning.{Table}
use Rattle.table_rewrite.specs.spelling.Spelled.{productions_at}
use Rattle.table_rewrite.specs.grammar_records.Target.{PackedAs}
use Rattle.table_rewrite.proofs.grammar_records.Areas.{Front}
use Rattle.table_rewrite.proofs.grammar_records.write_front.Given as goal

abbrev pub invariant-loop-n : goal.invariant-loop-n
invariant-loop-n l = ((U : Table) (g : List ℕ) → l.fn.counts.nonterminals ≡ length U.nonterminals → l.at ≡ productions_at U → PackedAs U l.grammar.words.now l.grammar.productions → Front U g l.initial.out 0 → Front U g l.out l.n)
