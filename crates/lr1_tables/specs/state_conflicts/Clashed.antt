-- The conflicts of a state by numbers: r is the list of specs/state_conflicts/Reductions, sh the set of the terminals that are shifted.
use Rattle.std.specs.Prelude.{◌≡◌, ℕ, ◌+◌, ◌-◌, ◌/◌, ◌%◌, Bool, not, ◌&&◌, List, ◌++◌, map, ◌==◌, nat_lt, slice_index}
use Rattle.lr1_base.specs.repr.Sizes.{index_limit, terminal_limit}
use Rattle.lr1_base.specs.repr.Lists.{up_from, below, joined, some?}
use Rattle.lr1_base.specs.lookahead.Tokens.{has, meet, members}
use Rattle.lr1_base.specs.item.Cursor.{code_in}
use Rattle.lr1_states.specs.canonical.Canonical.{Clash}
use Rattle.lr1_tables.specs.state_conflicts.Clashes.{shift_clash, reduce_clash}

-- the item at place x, with the tokens s, has its cursor at terminal t
unfoldable pub shifts_at : List ℕ → ℕ → ℕ → ℕ → Bool
shifts_at g s x t = not (s == 0) && code_in g (x / index_limit) (x % index_limit) == 32 + t

-- the set has the terminals of the places below n
abbrev pub ShiftedIn : List ℕ → List ℕ → ℕ → ℕ → Type 0
ShiftedIn g S n sh = (t : ℕ) → has sh t ≡ (nat_lt t terminal_limit && some? (λ x. shifts_at g (slice_index S x) x t) (below n))

-- production p with each of the others
unfoldable pub pairs_in : List ℕ → ℕ → List ℕ → List Clash
pairs_in r p qs = joined (λ q. map (reduce_clash p q) (members (meet (slice_index r p) (slice_index r q)))) qs

-- all of production p, of n productions
unfoldable pub clashes_in : List ℕ → ℕ → ℕ → ℕ → List Clash
clashes_in r sh n p = map (shift_clash p) (members (meet (slice_index r p) sh)) ++ pairs_in r p (up_from (p + 1) (n - (p + 1)))
