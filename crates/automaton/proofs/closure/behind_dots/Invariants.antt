use Rattle.std.proofs.Common.{ℕ, ◌<◌, ◌↔◌, All, take, vec_len}
use Rattle.std.specs.Prelude.{Contains}
use Rattle.automaton.specs.Spreading.{IsBehindDot}
use Rattle.automaton.proofs.closure.behind_dots.Given as goal

abbrev pub invariant-loop-entry : goal.invariant-loop-entry
invariant-loop-entry l = record {
  in_range : All (λ n. n < vec_len l.grammar.nonterminals) l.starts.items;
  exact : (n : ℕ) → Contains l.starts.items n ↔ IsBehindDot l.grammar (take l.entry-index l.kernel) n;
}
