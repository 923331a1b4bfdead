-- The listing of at most 1,024 edges trial by trial (specs/examples/Listing) is that of conflict_sides/specs/conflict/Sides; more are refusal 12.
use Rattle.std.specs.Prelude.{◌≡◌, ℕ, ◌+◌, ◌<◌, ◌≤◌, ltb, List, [], map, length, get_or, take}
use mathlib.Core.Path.{sym, ◌∙◌}
use mathlib.Core.Option.{Option}
use native.Mathlib.Omega.{arith}
use borrow.Author.Tests.{lt-ltb, le-ltb}
use Rattle.lr1_base.specs.repr.Sizes.{edge_limit, trial_limit, example_limit}
use Rattle.lr1_base.specs.repr.Lists.{keep}
use Rattle.lr1_base.specs.repr.Meaning.{Item, Table}
use Rattle.lr1_base.proofs.repr.Lists.{cases, keep_agree}
use Rattle.first.specs.First.{sets_of_first}
use Rattle.trace_graph.specs.Graph.{TraceEdge, at_item}
use Rattle.enumerator.specs.trials.Trials.{Path, ends_of, trials}
use Rattle.enumerator.specs.trials.Lister.{hands, labels_of}
use Rattle.conflict_sides.specs.conflict.Sides.{gathered, stopped, listing_side}
use Rattle.enumerator.specs.filter.Filter.{hands_by}
use Rattle.enumerator.proofs.filter.Passing.{hands_by_lem}
use Rattle.conflict_sides.specs.examples.Listing.{listed_by}
use Rattle.conflict_sides.proofs.examples.Walking.{tested, walk_is}

module _ (T : Table) (es : List TraceEdge) (i : Item) (ahead : Option ℕ) (k : ℕ) where
  abbrev ts : List Path
  ts = trials (ends_of es) (at_item i)

  listing_tested : length es ≤ edge_limit
      → listing_side T es i ahead k
      ≡ tested (ltb example_limit (k + length (keep (hands T es ahead) (take trial_limit ts)))) (ltb trial_limit (length ts)) (gathered (map (labels_of T.productions es) (keep (hands T es ahead) ts)) (length ts))
  unfolding listing_side tested
  listing_tested h =
      let n = le-ltb edge_limit (length es) h in
      cases (ltb example_limit (k + length (keep (hands T es ahead) (take trial_limit ts))))
      (λ a. rw (n, a, listing_side))
      (λ a. cases (ltb trial_limit (length ts)) (λ b. rw (n, a, b, listing_side)) (λ b. rw (n, a, b, listing_side)))

  pub listing-over : edge_limit < length es → listing_side T es i ahead k ≡ stopped 12
  unfolding listing_side
  listing-over h = rw (lt-ltb edge_limit (length es) h, listing_side)

  pub listing_is : length es ≤ edge_limit → k ≤ example_limit → listed_by T.terminals (sets_of_first T.terminals T.productions) T.productions es ahead i k ≡ listing_side T es i ahead k
  unfolding listed_by
  listing_is h l =
      let test = hands_by T.terminals (sets_of_first T.terminals T.productions) T.productions es ahead in
      let agree : (xs : List Path) → keep test xs ≡ keep (hands T es ahead) xs = λ xs. keep_agree test (hands T es ahead) xs [] (λ j q. sym (hands_by_lem T es ahead (get_or xs j []))) in
      let z : 0 + length ts ≡ length ts = omega arith in
      walk_is test (labels_of T.productions es) trial_limit 0 k ts l
      ∙ (rw (agree (take trial_limit ts), agree ts, z) (sym (listing_tested h)))
