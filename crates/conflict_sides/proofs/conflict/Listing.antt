-- A side's listing is the plain lister's over the traced edges: asked often enough, what it hands out is what the side gathers, and its count at the end the trials; 13 and 14 are read
-- off its answers (docs/RULES.md, "Classes", `listing_side` of specs/conflict/Sides).
use Rattle.std.proofs.Common.{◌≡◌, ℕ, ◌+◌, ◌<◌, ◌≤◌, Bool, true, false, ltb, List, ◌++◌, map, length, take, drop, sym, ap, ◌∙◌, ⊎_elim, arith, length-append, take-append-drop, take_all, take-take, le-ltb, lt-ltb}
use mathlib.Core.Option.{Option}
use Rattle.lr1_base.specs.repr.Sizes.{edge_limit, trial_limit, example_limit}
use Rattle.lr1_base.specs.repr.Lists.{keep, every?}
use Rattle.lr1_base.specs.repr.Meaning.{Item, Table}
use Rattle.lr1_base.proofs.repr.Lists.{cases, keep_append}
use Rattle.trace_graph.specs.Graph.{TraceEdge, at_item}
use Rattle.enumerator.specs.trials.Trials.{Path, ends_of, trials}
use Rattle.enumerator.specs.trials.Lister.{Call, enough, hands, says, labels_of, Out, plain_lister}
use Rattle.enumerator.specs.trials.Told.{path_lister, spoken, handed, ends, count_after}
use Rattle.enumerator.proofs.trials.Handed.{full-run, up_to, said}
use Rattle.conflict_sides.specs.conflict.Sides.{gathered, stopped, listing_side}
use Rattle.conflict_sides.specs.conflict.Listing.{side_told}

-- a beginning keeps no more
kept_less : (t : Path → Bool) (n m : ℕ) (ts : List Path) → n ≤ m → length (keep t (take n ts)) ≤ length (keep t (take m ts))
kept_less t n m ts h =
    let e : keep t (take n ts) ++ keep t (drop n (take m ts)) ≡ keep t (take m ts) =
    ap (λ (l : List Path). keep t l ++ keep t (drop n (take m ts))) (sym (take-take n m ts h))
    ∙ sym (keep_append t (take n (take m ts)) (drop n (take m ts))) ∙ ap (keep t) (take-append-drop n (take m ts)) in
    omega (arith, ap length e, length-append (keep t (take n ts)) (keep t (drop n (take m ts))))

module _ (T : Table) (es : List TraceEdge) (i : Item) (a : Option ℕ) (k : ℕ) where
  -- examples among the first 100,000 trials
  within : ℕ
  within = length (keep (hands T es a) (take trial_limit (trials (ends_of es) (at_item i))))

  -- the ways of `listing_side`
  side_12 : ltb edge_limit (length es) ≡ true → listing_side T es i a k ≡ stopped 12
  unfolding listing_side
  side_12 e = rw (e, listing_side)

  module _ (few : ltb edge_limit (length es) ≡ false) where
    side_14 : ltb example_limit (k + within) ≡ true → listing_side T es i a k ≡ stopped 14
    unfolding listing_side within
    side_14 h = rw (few, h, listing_side)

    side_13 : ltb example_limit (k + within) ≡ false → ltb trial_limit (length (trials (ends_of es) (at_item i))) ≡ true → listing_side T es i a k ≡ stopped 13
    unfolding listing_side within
    side_13 h l = rw (few, h, l, listing_side)

    side_whole : ltb example_limit (k + within) ≡ false → ltb trial_limit (length (trials (ends_of es) (at_item i))) ≡ false
        → listing_side T es i a k ≡ gathered (map (labels_of T.productions es) (keep (hands T es a) (trials (ends_of es) (at_item i)))) (length (trials (ends_of es) (at_item i)))
    unfolding listing_side within
    side_whole h l = rw (few, h, l, listing_side)

  module _ (os : List Out) where
    -- the ways of `side_told`
    told_12 : ltb edge_limit (length es) ≡ true → side_told T es k os ≡ stopped 12
    unfolding side_told
    told_12 e = rw (e, side_told)

    module _ (few : ltb edge_limit (length es) ≡ false) where
      told_14 : ltb example_limit (k + length (handed os)) ≡ true → side_told T es k os ≡ stopped 14
      unfolding side_told
      told_14 h = rw (few, h, side_told)

      told_13 : ltb example_limit (k + length (handed os)) ≡ false → ends os ≡ false → side_told T es k os ≡ stopped 13
      unfolding side_told
      told_13 h l = rw (few, h, l, side_told)

      told-whole : ltb example_limit (k + length (handed os)) ≡ false → ends os ≡ true
          → side_told T es k os ≡ gathered (map (labels_of T.productions es) (handed os)) (count_after 0 os)
      unfolding side_told
      told-whole h l = rw (few, h, l, side_told)

  module _ (cs : List Call) (few : ltb edge_limit (length es) ≡ false) where
    -- an example for each of more than 192 calls
    each_example : example_limit < length cs → length (handed (path_lister T es i a cs)) ≡ length cs → listing_side T es i a k ≡ side_told T es k (path_lister T es i a cs)
    unfolding within
    each_example n x =
        let u = up_to T es i a cs in
        let l : length (keep (hands T es a) (take (count_after 0 (path_lister T es i a cs)) (trials (ends_of es) (at_item i)))) ≤ within =
        kept_less (hands T es a) (count_after 0 (path_lister T es i a cs)) trial_limit (trials (ends_of es) (at_item i)) u.1 in
        let y = ap length u.0 in
        side_14 few (lt-ltb example_limit (k + within) (omega arith))
        ∙ sym (told_14 (path_lister T es i a cs) few (lt-ltb example_limit (k + length (handed (path_lister T es i a cs))) (omega arith)))

    -- the end
    the_end : ends (path_lister T es i a cs) ≡ true → count_after 0 (path_lister T es i a cs) ≡ length (trials (ends_of es) (at_item i))
        → length (trials (ends_of es) (at_item i)) ≤ trial_limit → handed (path_lister T es i a cs) ≡ keep (hands T es a) (trials (ends_of es) (at_item i))
        → listing_side T es i a k ≡ side_told T es k (path_lister T es i a cs)
    unfolding within
    the_end x n l h =
        let q : within ≡ length (handed (path_lister T es i a cs)) =
        ap (λ (r : List Path). length (keep (hands T es a) r)) (take_all trial_limit (trials (ends_of es) (at_item i)) l) ∙ sym (ap length h) in
        cases (ltb example_limit (k + length (handed (path_lister T es i a cs))))
        (λ b. side_14 few (ap (λ (m : ℕ). ltb example_limit (k + m)) q ∙ b) ∙ sym (told_14 (path_lister T es i a cs) few b))
        (λ b.
        side_whole few (ap (λ (m : ℕ). ltb example_limit (k + m)) q ∙ b) (le-ltb trial_limit (length (trials (ends_of es) (at_item i))) l)
        ∙ sym (λ j. gathered (map (labels_of T.productions es) (h j)) (n j))
        ∙ sym (told-whole (path_lister T es i a cs) few b x))

    -- refusal 13
    the_limit : ends (path_lister T es i a cs) ≡ false → trial_limit < length (trials (ends_of es) (at_item i))
        → handed (path_lister T es i a cs) ≡ keep (hands T es a) (take trial_limit (trials (ends_of es) (at_item i))) → listing_side T es i a k ≡ side_told T es k (path_lister T es i a cs)
    unfolding within
    the_limit x l h =
        let q : within ≡ length (handed (path_lister T es i a cs)) = sym (ap length h) in
        cases (ltb example_limit (k + length (handed (path_lister T es i a cs))))
        (λ b. side_14 few (ap (λ (m : ℕ). ltb example_limit (k + m)) q ∙ b) ∙ sym (told_14 (path_lister T es i a cs) few b))
        (λ b.
        side_13 few (ap (λ (m : ℕ). ltb example_limit (k + m)) q ∙ b) (lt-ltb trial_limit (length (trials (ends_of es) (at_item i))) l)
        ∙ sym (told_13 (path_lister T es i a cs) few b x))

  -- asked more than 192 times, lent enough each time
  pub listing_side_lem : (cs : List Call) → every? enough cs ≡ true → example_limit < length cs
      → (plain_lister T es i a cs ≡ map (spoken (says T es)) (path_lister T es i a cs)) × (listing_side T es i a k ≡ side_told T es k (path_lister T es i a cs))
  listing_side_lem cs e n = (
    said T es i a cs,
    cases (ltb edge_limit (length es))
        (λ f. side_12 f ∙ sym (told_12 (path_lister T es i a cs) f))
        (λ f. ⊎_elim (each_example cs f n) (λ y. ⊎_elim (λ z. the_end cs f z.0 z.1 z.2 z.3) (λ z. the_limit cs f z.0 z.1 z.2) y) (full-run T es i a cs e)),
  )
