use Rattle.std.proofs.Common.{◌≡◌, ℕ, ◌<◌, ◌↔◌, take, vec_len}
use Rattle.automaton.specs.Reach.{IsMarked}
use Rattle.automaton.specs.Resolutions.{IsUsed}
use Rattle.automaton.proofs.usage.used_terminals.Given as goal

abbrev pub invariant-loop-resolved : goal.invariant-loop-resolved
invariant-loop-resolved l = record {
  len : vec_len l.marks ≡ vec_len l.grammar.terminals;
  exact : (t : ℕ) → t < vec_len l.grammar.terminals → IsMarked l.marks.items t ↔ IsUsed l.grammar (take l.resolved-index l.conflicts) t;
}
