-- No two proofs that ids are entered differ, so that a struct may hold one.
use Rattle.std.specs.Prelude.{ℕ, ◌+◌, List, [], ◌∷◌, slice_index}
use Rattle.std.proofs.Props.{props}
use Rattle.lr1_base.specs.hash_index.Chains.{Linked}
use Rattle.yacc_reader.specs.declared.symbol_table.Ids.{Ids}
use Rattle.yacc_reader.specs.symbol_table.Ids.{Kept, Named}

pub Linked-prop : (ix : List ℕ) (links h : ℕ) (ks : List ℕ) → IsProp (Linked ix links h ks)
unfolding Linked
Linked-prop ix links h [] = hlevel props
Linked-prop ix links h (k ∷ ks) = hlevel (props, Linked-prop ix links (slice_index ix (links + k)) ks)

pub Kept-prop : (t starts pasts ix lefts tokens : List ℕ) (ids : Ids) → IsProp (Kept t starts pasts ix lefts tokens ids)
Kept-prop t starts pasts ix lefts tokens ids = hlevel (props, Linked-prop)

pub Named-prop : (t starts pasts ix lefts tokens : List ℕ) (ids : Ids) → IsProp (Named t starts pasts ix lefts tokens ids)
Named-prop t starts pasts ix lefts tokens ids = hlevel (props, Linked-prop)
