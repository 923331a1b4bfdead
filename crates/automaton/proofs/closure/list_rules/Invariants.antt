use Rattle.std.proofs.Common.{ℕ, ◌<◌, All, take}
use Rattle.std.specs.Prelude.{Contains}
use Rattle.automaton.specs.declared.automaton.Entry.{Entry}
use Rattle.automaton.specs.Alternatives.{alternatives_of}
use Rattle.automaton.specs.Items.{fresh}
use Rattle.automaton.proofs.closure.list_rules.Given as goal

abbrev pub invariant-loop-n : goal.invariant-loop-n
invariant-loop-n l = record {
  keeps : (e : Entry) → Contains l.initial.entries.items e → Contains l.entries.items e;
  adds : (n q : ℕ) → Contains (take l.n-index l.reached) n → Contains (alternatives_of l.alternatives n) q
      → Contains l.entries.items (record { item = fresh q; tokens = n });
  in_range : (rows : ℕ) → All (λ n. n < rows) l.reached → All (λ e. e.tokens < rows) l.initial.entries.items → All (λ e. e.tokens < rows) l.entries.items;
}
