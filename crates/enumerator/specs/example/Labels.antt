-- Labels in words, as the code hands them on: nonterminal, production, index each, innermost first.
use Rattle.std.specs.Prelude.{◌≡◌, ℕ, ◌*◌, ◌<◌, ◌≤◌, List, [], ◌∷◌, length, slice_index_or}
use Rattle.lr1_base.specs.repr.Sizes.{label_room, labels_room}
use Rattle.lr1_base.specs.repr.Meaning.{Production, no_production, All}
use Rattle.enumerator.specs.example.Example.{Label}

unfoldable pub labels_in : List ℕ → List Label
labels_in [] = []
labels_in (n ∷ []) = []
labels_in (n ∷ p ∷ []) = []
labels_in (n ∷ p ∷ i ∷ ws) = record { nonterminal = n; production = p; index = i } ∷ labels_in ws

-- a label's numbers in range
pub record LabelFits (ps : List Production) (l : Label) : Type 0 where
  pub nonterminal : l.nonterminal < 32
  pub production : l.production < length ps
  pub index : l.index ≤ length (slice_index_or ps l.production no_production).symbols

-- at least one label and at most 33, whole and in range
pub record LabelsFit (ps : List Production) (ws : List ℕ) : Type 0 where
  pub some_label : 3 ≤ length ws
  pub few : length ws ≤ labels_room
  pub whole : length ws ≡ label_room * length (labels_in ws)
  pub each : All (LabelFits ps) (labels_in ws)
