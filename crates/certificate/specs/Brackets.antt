-- The brackets of a reading.
use Rattle.std.specs.Prelude.{◌≡◌, ℕ, ◌-◌, List, [], ◌∷◌, ◌++◌, All, Some, slice_get, length, replicate}
use Rattle.grammar.specs.declared.symbol.Symbol.{Symbol}
use Rattle.grammar.specs.declared.symbol.Symbol.TheVariants.{Nonterminal}
use Rattle.grammar.specs.declared.symbol.Production.{Production}
use Rattle.certificate.specs.declared.reading.Action.{Action}
use Rattle.certificate.specs.declared.reading.Action.TheVariants.{Shift, Reduce}
use Rattle.certificate.specs.declared.brackets.Bracket.{Bracket}
use Rattle.certificate.specs.Readings.{IsReading, shifts_of}

-- What brackets say of a form of `count` symbols when some are read: symbols are read up to a bracket's end, and there
-- its production is reduced; at last the rest is read.
abbrev pub actions_of : List Bracket → ℕ → ℕ → List Action
actions_of [] read count = replicate (count - read) Shift
actions_of (b ∷ bs) read count = replicate (b.to - read) Shift ++ (Reduce b.production ∷ actions_of bs b.to count)

-- A bracket stands over what its nonterminal is read from, by a part of the actions that ends in its reduction.
pub record StandsOver (ps : List Production) (actions : List Action) (form : List Symbol) (b : Bracket) : Type 0 where
  pub front : List Symbol
  pub under : List Symbol
  pub back : List Symbol
  pub parts : form ≡ front ++ under ++ back
  pub from : length front ≡ b.from
  pub to : length (front ++ under) ≡ b.to
  pub before : List Action
  pub own : List Action
  pub behind : List Action
  pub taken : actions ≡ before ++ own ++ (Reduce b.production ∷ behind)
  pub begin : shifts_of before ≡ b.from
  pub production : Production
  pub listed : slice_get ps b.production ≡ Some production
  pub reads : IsReading ps (own ++ Reduce b.production ∷ []) under (Nonterminal production.left)

-- The brackets are those of the reading of a form: they say its actions, and each stands over what it is read from.
pub record AreBrackets (ps : List Production) (actions : List Action) (form : List Symbol) (bs : List Bracket) : Type 0 where
  pub said : actions_of bs 0 (length form) ≡ actions
  pub over : All (StandsOver ps actions form) bs
