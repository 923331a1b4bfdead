-- Readings of an input: the actions of a bottom-up parser, which are a rightmost derivation backwards (Aho, Sethi,
-- Ullman: shift-reduce parsing).
use Rattle.std.specs.Prelude.{◌≡◌, ℕ, Bool, true, false, List, [], ◌∷◌, ◌++◌, Some, slice_get, count_by, map}
use Rattle.grammar.specs.declared.symbol.Symbol.{Symbol}
use Rattle.grammar.specs.declared.symbol.Symbol.TheVariants.{Terminal, Nonterminal}
use Rattle.grammar.specs.declared.symbol.Production.{Production}
use Rattle.certificate.specs.declared.reading.Action.{Action}
use Rattle.certificate.specs.declared.reading.Action.TheVariants.{Shift, Reduce}

-- The actions take a parser through the whole input, from one stack to another. A shift puts the next symbol on the
-- stack; a reduction puts the left side of its production in the place of the right side.
abbrev pub Reads : List Production → List Action → List Symbol → List Symbol → List Symbol → Type 0
Reads ps [] stack input end = (input ≡ []) × (stack ≡ end)
Reads ps (Shift ∷ actions) stack input end =
    (x : Symbol) × (rest : List Symbol) × (input ≡ x ∷ rest) × Reads ps actions (stack ++ x ∷ []) rest end
Reads ps (Reduce k ∷ actions) stack input end =
    (p : Production) × (below : List Symbol) × (slice_get ps k ≡ Some p) × (stack ≡ below ++ p.right.items)
    × Reads ps actions (below ++ Nonterminal p.left ∷ []) input end

-- A reading of the input as one symbol: from the empty stack to that symbol alone.
abbrev pub IsReading : List Production → List Action → List Symbol → Symbol → Type 0
IsReading ps actions input x = Reads ps actions [] input (x ∷ [])

-- A parse of tokens: their reading as the start symbol, which is the left side of the first production.
pub record Parses (ps : List Production) (actions : List Action) (tokens : List ℕ) : Type 0 where
  pub start : Production
  pub first : slice_get ps 0 ≡ Some start
  pub reading : IsReading ps actions (map Terminal tokens) (Nonterminal start.left)

abbrev pub is_shift : Action → Bool
is_shift Shift = true
is_shift (Reduce k) = false

-- how many symbols the actions read
abbrev pub shifts_of : List Action → ℕ
shifts_of actions = count_by is_shift actions
