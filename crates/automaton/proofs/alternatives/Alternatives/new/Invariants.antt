use Rattle.std.proofs.Common.{◌≡◌, ℕ, ◌<◌, [], All, vec_len}
use Rattle.std.specs.Prelude.{Contains}
use Rattle.automaton.specs.Alternatives.{lists_of, alternatives_in}
use Rattle.automaton.specs.Items.{IsRule, left_of}
use Rattle.automaton.proofs.alternatives.Alternatives.new.Given as goal

abbrev pub invariant-loop : goal.invariant-loop
invariant-loop l = (vec_len l.lists ≡ l.counter) × All (λ list. list ≡ []) (lists_of l.lists)

abbrev pub invariant-loop-q : goal.invariant-loop-q
invariant-loop-q l = record {
  len : vec_len l.lists ≡ vec_len l.grammar.nonterminals;
  has : (q : ℕ) → q < l.q → Contains (alternatives_in (lists_of l.lists) (left_of l.grammar q)) q;
  only : (n q : ℕ) → Contains (alternatives_in (lists_of l.lists) n) q → IsRule l.grammar q n;
}
