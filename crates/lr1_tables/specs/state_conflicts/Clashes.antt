-- The conflicts of a state as code counts and writes them: of each production the tokens of its complete item that are shifted too, then for each higher production
-- those of both. `clashes_with_lem` of proofs/state_conflicts/Clashes: these are `clashes_of` of specs/canonical/States of lr1_states.
use Rattle.std.specs.Prelude.{ℕ, suc, ◌-◌, ◌&&◌, ◌≡◌, List, ◌++◌, map, length, ltb}
use Rattle.lr1_base.specs.repr.Lists.{up_from, joined}
use Rattle.lr1_base.specs.repr.Meaning.{Table}
use Rattle.lr1_base.specs.lookahead.Tokens.{has, meet, members}
use Rattle.lr1_states.specs.canonical.Canonical.{Clash}
use Rattle.lr1_states.specs.canonical.States.{reduces, shifts}

unfoldable pub shift_clash : ℕ → ℕ → Clash
shift_clash p t = record { production = p; action = 0; other = t; token = t }

unfoldable pub reduce_clash : ℕ → ℕ → ℕ → Clash
reduce_clash p q a = record { production = p; action = 1; other = q; token = a }

-- the set of the terminals that the state shifts
abbrev pub Shifted : Table → List ℕ → ℕ → Type 0
Shifted T S sh = (t : ℕ) → has sh t ≡ ltb t T.terminals && shifts T S t

unfoldable pub clashes_with : Table → List ℕ → ℕ → ℕ → List Clash
clashes_with T S sh p =
    map (shift_clash p) (members (meet (reduces T S p) sh))
    ++ joined (λ q. map (reduce_clash p q) (members (meet (reduces T S p) (reduces T S q)))) (up_from (suc p) (length T.productions - suc p))
