-- The ways through a call of `advance` (specs/trials/Advance) that is asked rightly.
use Rattle.std.proofs.Common.{◌≡◌, ℕ, ◌-◌, Bool, true, false, List, length, sym, refl, true≢false}
use Rattle.lr1_base.specs.repr.Reply.{answered, refused}
use Rattle.lr1_base.specs.repr.Sizes.{trial_limit}
use Rattle.lr1_base.specs.repr.Meaning.{Table}
use Rattle.trace_graph.specs.Graph.{at_item, is_node_of}
use Rattle.trace_graph.specs.Words.{edges_in}
use Rattle.enumerator.specs.trials.Trials.{ends_of, trials}
use Rattle.enumerator.specs.trials.Lister.{enough, hands, search}
use Rattle.enumerator.specs.trials.Advance.{outcome, set_of, start_of, asked, found_outcome, rest_of, lost, advance_in}
use Rattle.enumerator.specs.declared.trials.Listing.{Listing}
use Rattle.enumerator.specs.declared.trials.Advanced.TheVariants.{End}

-- by a fact that speaks of the whole listing, since `rw` would change the listing itself
branch : {A : Type 0} (o : Bool) (x y : A) → o ≡ true → ◌≡◌ {A = A} (elim o [ true ↦ x | false ↦ y ]) x
branch true x y e = refl
branch false x y e = absurd (true≢false (sym e))

branch_no : {A : Type 0} (o : Bool) (x y : A) → o ≡ false → ◌≡◌ {A = A} (elim o [ true ↦ x | false ↦ y ]) y
branch_no true x y e = absurd (true≢false e)
branch_no false x y e = refl

module _ (g : List ℕ) (l : Listing) (scratch buffer : List ℕ) (T : Table) (a : asked T (start_of l) (set_of l.lookahead) g ≡ true) where
  -- lent too little
  pub advance_short : enough (record { graph = length g; scratch = length scratch; buffer = length buffer }) ≡ false
      → advance_in g l scratch buffer T ≡ outcome (refused 11 0) l scratch buffer
  unfolding advance_in
  advance_short e = rw (a, e, advance_in)

  module _ (e : enough (record { graph = length g; scratch = length scratch; buffer = length buffer }) ≡ true)
      (k : lost (edges_in g) l scratch ≡ false) (n : is_node_of (at_item (start_of l)) (edges_in g) ≡ true) where
    -- ended before
    pub advance_ended : l.is_open ≡ false → advance_in g l scratch buffer T ≡ outcome (answered End) l scratch buffer
    unfolding advance_in
    advance_ended o = rw (a, e, k, n, advance_in) (branch_no l.is_open _ _ o)

    -- the search
    pub advance_open : l.is_open ≡ true
        → advance_in g l scratch buffer T
        ≡ found_outcome T (edges_in g) l scratch buffer
        (search (hands T (edges_in g) (set_of l.lookahead)) (trial_limit - l.count) l.count (rest_of l.count scratch (trials (ends_of (edges_in g)) (at_item (start_of l)))))
    unfolding advance_in
    advance_open o = rw (a, e, k, n, advance_in) (branch l.is_open _ _ o)
