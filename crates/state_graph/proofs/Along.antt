-- Laws of going along a state's edges: what is left of them says what the whole says.
use mathlib.Core.Path.{◌≡◌, sym, ap, ◌∙◌}
use mathlib.Core.Bool.{Bool, true, false, ◌||◌}
use Prim.Native.Nat.{ℕ, ◌^◌, ◌<◌}
use lib.ListN.{length}
use mathlib.Core.List.{List}
use Rattle.lr1_base.specs.repr.Lists.{some?}
use Rattle.lr1_base.specs.repr.Meaning.{Edge, state_at}
use Rattle.lr1_base.specs.repr.Listed.{symbol_of_kind, symbol_is_fit}
use Rattle.lr1_base.proofs.repr.Tests.{some?-nil, some?-cons}
use Rattle.table.specs.Decoded.{meaning, edges_from}
use Rattle.table.specs.Index.{EdgeRead}
use Rattle.state_graph.specs.States.{states_in}
use Rattle.state_graph.specs.Walk.{leads}
use Rattle.state_graph.specs.Hits.{goes_in, meets}
use Rattle.state_graph.proofs.Hits.{edges_none, meets_is, leads-meets}

-- the edges from record `at` on have one by the symbol into the set exactly where state s has one
abbrev pub Along : List ℕ → ℕ → ℕ → ℕ → ℕ → ℕ → ℕ → Type 0
Along t k x l h s at = some? (meets (symbol_of_kind k x) (states_in l h)) (edges_from t at) ≡ leads (meaning t) (symbol_of_kind k x) (states_in l h) s

module _ (t : List ℕ) (k x l h s : ℕ) where
  pub along-start : (at : ℕ) → edges_from t at ≡ (state_at (meaning t) s).edges → Along t k x l h s at
  along-start at e = ap (some? (meets (symbol_of_kind k x) (states_in l h))) e ∙ sym (leads-meets (meaning t) (symbol_of_kind k x) (states_in l h) s)

  module _ (at : ℕ) (A : Along t k x l h s at) where
    pub along-done : at ≡ 0 → false ≡ leads (meaning t) (symbol_of_kind k x) (states_in l h) s
    along-done z = sym (rw (z, edges_none t) (some?-nil (meets (symbol_of_kind k x) (states_in l h)))) ∙ A

    module _ (f : symbol_is_fit (length (meaning t).nonterminals) (meaning t).terminals k x ≡ true) (hh : h < 2 ^ 64) (next j y z : ℕ) (R : EdgeRead t at next j y z) where
      says : (b : Bool) → goes_in k x l h j y z ≡ b → (b || some? (meets (symbol_of_kind k x) (states_in l h)) (edges_from t next)) ≡ leads (meaning t) (symbol_of_kind k x) (states_in l h) s
      unfolding goes_in
      says b e =
          let edge : Edge = record { symbol = symbol_of_kind j y; target = z } in
          ap (λ (c : Bool). c || some? (meets (symbol_of_kind k x) (states_in l h)) (edges_from t next)) (sym e ∙ meets_is (length (meaning t).nonterminals) (meaning t).terminals k x l h j y z hh f R.symbol)
          ∙ sym (ap (some? (meets (symbol_of_kind k x) (states_in l h))) R.list ∙ some?-cons (meets (symbol_of_kind k x) (states_in l h)) edge (edges_from t next))
          ∙ A

      pub along-hit : goes_in k x l h j y z ≡ true → true ≡ leads (meaning t) (symbol_of_kind k x) (states_in l h) s
      along-hit e = says true e

      pub along-more : goes_in k x l h j y z ≡ false → Along t k x l h s next
      along-more e = says false e
