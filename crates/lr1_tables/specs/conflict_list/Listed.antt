-- The words of the conflicts of one state and of all, of the states that words hold.
use Rattle.std.specs.Prelude.{ℕ, List, [], get_or}
use Rattle.lr1_base.specs.repr.Lists.{joined}
use Rattle.lr1_base.specs.repr.Meaning.{Table}
use Rattle.lr1_states.specs.canonical.States.{clashes}
use Rattle.lr1_states.specs.canonical.Built.{clash_words}

-- `conflict_words` of specs/canonical/Built of lr1_states are these of each state
abbrev pub state_words : Table → List (List ℕ) → ℕ → List ℕ
state_words T Rs k = joined (clash_words k) (clashes T (get_or Rs k []))
