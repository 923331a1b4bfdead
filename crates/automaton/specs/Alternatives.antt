-- The productions of each nonterminal.
use Rattle.std.specs.Prelude.{ℕ, ◌↔◌, List, [], map, slice_index_or, Contains}
use Rattle.std.specs.declared.vec.Vec.{Vec}
use Rattle.std.specs.declared.alloc.Global.{Global}
use Rattle.grammar.specs.declared.grammar.Grammar.{Grammar}
use Rattle.automaton.specs.declared.alternatives.Alternatives.{Alternatives}
use Rattle.automaton.specs.Items.{IsRule}

abbrev pub lists_of : Vec (Vec ℕ Global) Global → List (List ℕ)
lists_of lists = map (λ (list : Vec ℕ Global). list.items) lists.items

abbrev pub alternatives_in : List (List ℕ) → ℕ → List ℕ
alternatives_in lists n = slice_index_or lists n []

abbrev pub alternatives_of : Alternatives → ℕ → List ℕ
alternatives_of a n = alternatives_in (lists_of a.lists) n

-- of each nonterminal the list has its productions, and no others
pub record AreAlternatives (g : Grammar) (a : Alternatives) : Type 0 where
  pub exact : (n q : ℕ) → Contains (alternatives_of a n) q ↔ IsRule g q n
