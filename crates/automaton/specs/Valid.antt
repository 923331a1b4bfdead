-- The LR(1) items that are valid for a list of symbols, and the conflicts among them, as textbooks
-- have them (Knuth; Aho, Sethi, Ullman).
-- Production 0 is the start. A token is a terminal's number, or the next after them for the end of
-- the input.
use Rattle.std.specs.Prelude.{ℕ, ◌≡◌, ◌<◌, ◌⊎◌, List, [], ◌∷◌, ◌++◌, vec_len}
use Rattle.grammar.specs.declared.symbol.Symbol.{Symbol}
use Rattle.grammar.specs.declared.symbol.Symbol.TheVariants.{Terminal, Nonterminal}
use Rattle.grammar.specs.declared.grammar.Grammar.{Grammar}
use Rattle.grammar.specs.Derives.{Begins, Vanishes}
use Rattle.automaton.specs.declared.item.Item.{Item}
use Rattle.automaton.specs.Items.{rest_of, fresh, complete, advanced, IsRule}

-- the end of the input
abbrev pub end_of : Grammar → ℕ
end_of g = vec_len g.terminals

-- b begins what the symbols derive with the token a behind it
abbrev pub BeginsBefore : Grammar → List Symbol → ℕ → ℕ → Type 0
BeginsBefore g xs a b = Begins g.productions.items xs b
    ⊎ (Vanishes g.productions.items xs × (b ≡ a))

-- [i, a] is valid for the symbols
pub data Valid (g : Grammar) : List Symbol → Item → ℕ → Type 0 where
  start : Valid g [] (fresh 0) (end_of g)
  closed : {γ : List Symbol} {i : Item} {a b : ℕ} (n q : ℕ) (β : List Symbol) → Valid g γ i a
      → rest_of g i ≡ Nonterminal n ∷ β → IsRule g q n → BeginsBefore g β a b
      → Valid g γ (fresh q) b
  moved : {γ : List Symbol} {i : Item} {a : ℕ} (x : Symbol) (β : List Symbol) → Valid g γ i a
      → rest_of g i ≡ x ∷ β → Valid g (γ ++ x ∷ []) (advanced i) a

-- after the symbols, production p may be reduced before t, and an item may read t
pub record IsShiftReduce (g : Grammar) (γ : List Symbol) (t p : ℕ) : Type 0 where
  pub reduces : Valid g γ (complete g p) t
  pub item : Item
  pub token : ℕ
  pub behind : List Symbol
  pub valid : Valid g γ item token
  pub shifts : rest_of g item ≡ Terminal t ∷ behind

-- after the symbols, two productions may be reduced before t
pub record IsReduceReduce (g : Grammar) (γ : List Symbol) (t p q : ℕ) : Type 0 where
  pub order : p < q
  pub first : Valid g γ (complete g p) t
  pub second : Valid g γ (complete g q) t
