-- Steps back, as the code keeps them: each of so many places holds none or one that was made.
use Rattle.std.specs.Prelude.{ℕ, ◌+◌, ◌*◌, ◌<◌, ◌≡◌, true, List, Option, Some, None, length, get_or}
use Rattle.lr1_base.specs.repr.Sizes.{nonterminal_limit, terminal_limit}
use Rattle.lr1_base.specs.repr.Meaning.{Table}
use Rattle.lr1_base.specs.repr.Listed.{symbol_of_kind, symbol_is_fit}
use Rattle.state_graph.specs.States.{states_in}
use Rattle.state_graph.specs.Walk.{predecessors}
use Rattle.state_graph.specs.declared.MadeStep.{MadeStep}

-- terminals behind the nonterminals
abbrev pub step_row : ℕ → ℕ → ℕ
step_row kind number = kind * nonterminal_limit + number

abbrev pub step_rows : ℕ
step_rows = nonterminal_limit + terminal_limit

-- fewer than rows, as all of them are made empty at each walk
abbrev pub step_places : ℕ
step_places = 31

-- what was found is what the step finds in the table, if its symbol is one of it
abbrev pub MadeIn : Table → MadeStep → Type 0
MadeIn T m = symbol_is_fit (length T.nonterminals) T.terminals m.kind m.number ≡ true → states_in m.found.low m.found.high ≡ predecessors T (symbol_of_kind m.kind m.number) (states_in m.from.low m.from.high)

pub record Remembered (T : Table) (ss : List (Option MadeStep)) : Type 0 where
  pub long : length ss ≡ step_places
  pub exact : (p : ℕ) (m : MadeStep) → p < step_places → get_or ss p None ≡ Some m → MadeIn T m
