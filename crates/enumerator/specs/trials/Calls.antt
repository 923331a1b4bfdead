-- A list of calls over one table, graph, listing and scratch: each call is lent the graph and the scratch whole or only a beginning of them, and a buffer of its own.
use Rattle.std.specs.Prelude.{ℕ, min, List, [], ◌∷◌, ◌++◌, length, take, drop}
use Rattle.lr1_base.specs.repr.Reply.{Reply, answered, refused as declined}
use Rattle.lr1_base.specs.words.Lent.{in_front}
use Rattle.enumerator.specs.trials.Lister.{Call, example, end, refused, Out}
use Rattle.enumerator.specs.trials.Advance.{Outcome, outcome, advance_of}
use Rattle.enumerator.specs.declared.trials.Listing.{Listing}
use Rattle.enumerator.specs.declared.trials.Advanced.{Advanced}
use Rattle.enumerator.specs.declared.trials.Advanced.TheVariants.{Example, End}

pub record Lent : Type 0 where
  pub graph : ℕ
  pub scratch : ℕ
  pub buffer : List ℕ

-- what one call leaves: its answer, the count after it, its buffer
pub record Left : Type 0 where
  pub answer : Reply Advanced
  pub count : ℕ
  pub buffer : List ℕ

unfoldable pub left_by : Outcome → Left
left_by (outcome a l s b) = record { answer = a; count = l.count; buffer = b }

unfoldable pub listing_by : Outcome → Listing
listing_by (outcome a l s b) = l

-- the scratch that comes back stands in front of the rest
unfoldable pub scratch_by : ℕ → List ℕ → Outcome → List ℕ
scratch_by m scratch (outcome a l s b) = s ++ drop m scratch

unfoldable pub called : List ℕ → List ℕ → Listing → List ℕ → Lent → Outcome
called t g l scratch c = advance_of l t (take c.graph g) (take c.scratch scratch) c.buffer

-- the calls, one after another, through the definition that `advance` is equated with
unfoldable pub calls : List ℕ → List ℕ → Listing → List ℕ → List Lent → List Left
calls t g l scratch [] = []
calls t g l scratch (c ∷ cs) =
    left_by (called t g l scratch c) ∷ calls t g (listing_by (called t g l scratch c)) (scratch_by c.scratch scratch (called t g l scratch c)) cs

-- the listing and the scratch that a list of calls leaves
unfoldable pub listing_after : List ℕ → List ℕ → Listing → List ℕ → List Lent → Listing
listing_after t g l scratch [] = l
listing_after t g l scratch (c ∷ cs) = listing_after t g (listing_by (called t g l scratch c)) (scratch_by c.scratch scratch (called t g l scratch c)) cs

unfoldable pub scratch_after : List ℕ → List ℕ → Listing → List ℕ → List Lent → List ℕ
scratch_after t g l scratch [] = scratch
scratch_after t g l scratch (c ∷ cs) = scratch_after t g (listing_by (called t g l scratch c)) (scratch_by c.scratch scratch (called t g l scratch c)) cs

-- what the plain lister says of the same calls: lengths alone go in
unfoldable pub lengths : List ℕ → List ℕ → Lent → Call
lengths g scratch c = record { graph = min c.graph (length g); scratch = min c.scratch (length scratch); buffer = length c.buffer }

unfoldable pub left_of : Lent → Out → Left
left_of c o = elim o.answer [
  | example ws ↦ record { answer = answered Example; count = o.count; buffer = in_front ws c.buffer }
  | end ↦ record { answer = answered End; count = o.count; buffer = c.buffer }
  | refused n ↦ record { answer = declined n 0; count = o.count; buffer = c.buffer }
]

unfoldable pub left_all : List Lent → List Out → List Left
left_all [] os = []
left_all (c ∷ cs) [] = []
left_all (c ∷ cs) (o ∷ os) = left_of c o ∷ left_all cs os
