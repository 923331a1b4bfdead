-- The words of a conflict from its pair and its token.
use Rattle.std.specs.Prelude.{ℕ, List, [], ◌∷◌}
use Rattle.lr1_tables.specs.declared.conflict_words.Action.{Action}
use Rattle.lr1_tables.specs.declared.conflict_words.Action.TheVariants.{Shift, Reduce}
use Rattle.lr1_tables.specs.declared.conflict_words.Pair.{Pair}

-- the number of an action
abbrev pub kind_of : Action → ℕ
kind_of Shift = 0
kind_of (Reduce q) = 1

-- a shift is of the token itself
abbrev pub other_of : Action → ℕ → ℕ
other_of Shift token = token
other_of (Reduce q) token = q

-- those of `clash_words` of specs/canonical/Built of lr1_states
unfoldable pub token_words : Pair → ℕ → List ℕ
token_words pair token = pair.state ∷ pair.production ∷ kind_of pair.action ∷ other_of pair.action token ∷ token ∷ []
