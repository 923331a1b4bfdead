-- The machine's steps (specs/trials/Machine) by the words of a view, as the code makes them. `next_view` of proofs/graph_view/Viewing: over the view of a graph they are the machine's.
use Rattle.std.specs.Prelude.{ℕ, zero, suc, ◌≡◌, Bool, true, false, List, [], ◌∷◌, ◌++◌, reverse, get_or, eqb}
use Rattle.std.proofs.Math.Option.{Option, none, some}
use Rattle.lr1_base.specs.repr.Sizes.{nonterminal_limit}
use Rattle.lr1_base.specs.repr.Lists.{mem}
use Rattle.enumerator.specs.trials.Counts.{Counted, walk_of}
use Rattle.enumerator.specs.graph_view.Trial.{trial_words}

-- the edge that a word links, or none
unfoldable pub edge_in : ℕ → Option ℕ
edge_in zero = none
edge_in (suc k) = some k

-- the nonterminals of a walk with one source more
unfoldable pub joined_by : ℕ → List ℕ → List ℕ
joined_by zero us = us
joined_by (suc n) us = n ∷ us

-- the nonterminals that the edges of a stack come from
unfoldable pub used_by : List ℕ → List ℕ → List ℕ
used_by sources [] = []
used_by sources (e ∷ st) = joined_by (get_or sources e 0) (used_by sources st)

-- the last edge gives way to the next older one; where there is none, the edge before it does
unfoldable pub back_by : List ℕ → List ℕ → Option (List ℕ)
back_by older [] = none
back_by older (e ∷ st) = elim (edge_in (get_or older e 0)) [ none ↦ back_by older st | some f ↦ some (f ∷ st) ]

-- one edge more, that which a word links
unfoldable pub seek_by : List ℕ → ℕ → List ℕ → Option (List ℕ)
seek_by older w st = elim (edge_in w) [ none ↦ back_by older st | some f ↦ some (f ∷ st) ]

-- on from where the last edge comes from: no further at an item, nor at a nonterminal of the walk
unfoldable pub onward_by : List ℕ → List ℕ → List ℕ → ℕ → ℕ → List ℕ → Option (List ℕ)
onward_by sources older latest zero e st = back_by older (e ∷ st)
onward_by sources older latest (suc n) e st =
    elim (mem n (used_by sources st)) [ true ↦ back_by older (e ∷ st) | false ↦ seek_by older (get_or latest n 0) (e ∷ st) ]

-- the trial after the one given; after the empty stack, the first
unfoldable pub next_by : List ℕ → List ℕ → List ℕ → List ℕ → Option (List ℕ)
next_by sources older latest [] = seek_by older (get_or latest nonterminal_limit 0) []
next_by sources older latest (e ∷ st) = onward_by sources older latest (get_or sources e 0) e st

-- the trial of a stack is an example: its last edge comes from an item
unfoldable pub example_by : List ℕ → List ℕ → Bool
example_by sources [] = false
example_by sources (e ∷ st) = eqb (get_or sources e 0) 0

-- the counts of the walk that the words hold, and of all the edges that they hold
pub record CountedWalk (sources ws ms : List ℕ) : Type 0 where
  pub walk : (st rest : List ℕ) → ws ≡ trial_words (reverse st) ++ rest → Counted (used_by sources (walk_of st)) ms

pub record CountedEdges (sources ws ms : List ℕ) : Type 0 where
  pub edges : (st rest : List ℕ) → ws ≡ trial_words (reverse st) ++ rest → Counted (used_by sources st) ms
