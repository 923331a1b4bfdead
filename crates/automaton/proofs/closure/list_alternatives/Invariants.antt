use Rattle.std.proofs.Common.{ℕ, ◌<◌, All, take}
use Rattle.std.specs.Prelude.{Contains}
use Rattle.automaton.specs.declared.automaton.Entry.{Entry}
use Rattle.automaton.specs.Items.{fresh}
use Rattle.automaton.proofs.closure.list_alternatives.Given as goal

abbrev pub invariant-loop-q : goal.invariant-loop-q
invariant-loop-q l = record {
  keeps : (e : Entry) → Contains l.initial.entries.items e → Contains l.entries.items e;
  adds : (q : ℕ) → Contains (take l.q-index l.productions) q → Contains l.entries.items (record { item = fresh q; tokens = l.left });
  in_range : (rows : ℕ) → l.left < rows → All (λ e. e.tokens < rows) l.initial.entries.items → All (λ e. e.tokens < rows) l.entries.items;
}
