-- The ways through a turn of `find_example`: the examples passed so far, and the one at hand (specs/examples/Again).
use Rattle.std.specs.Prelude.{◌≡◌, ℕ, zero, suc, ◌+◌, ◌-◌, ◌<◌, ◌≤◌, true, false, ltb, List, [], ◌∷◌, ◌++◌, length, get_or, drop}
use native.Mathlib.Omega.{arith}
use mathlib.Core.Path.{refl, sym, ap, ◌∙◌}
use mathlib.Core.Option.{Option}
use lib.ListN.{length-drop, drop_of_length-le}
use lib.Seq.{drop-cons}
use borrow.Author.Tests.{ltb-true, ltb-false}
use Rattle.lr1_base.specs.repr.Sizes.{example_limit}
use Rattle.lr1_base.specs.repr.Meaning.{Production, Item}
use Rattle.lr1_base.proofs.repr.Lists.{cases}
use Rattle.trace_graph.specs.Graph.{TraceEdge}
use Rattle.enumerator.specs.trials.Trials.{Path}
use Rattle.enumerator.specs.trials.Lister.{labels_of}
use Rattle.enumerator.specs.graph_view.Trial.{trial_words}
use Rattle.enumerator.specs.filter.Given.{Tried}
use Rattle.conflict_sides.specs.conflict.Sides.{Side, gathered, stopped}
use Rattle.conflict_sides.specs.conflict.Judge.{Example}
use Rattle.conflict_sides.specs.outline.Kept.{nth}
use Rattle.conflict_sides.specs.examples.Listing.{more, next_example, listed_by}
use Rattle.conflict_sides.specs.examples.Again.{Finds}
use Rattle.conflict_sides.proofs.examples.Walking.{next-room, next-none}
use Rattle.conflict_sides.proofs.examples.Walks.{rest_side, rest-first}

-- a side that is gathered was not stopped

pub not_stopped : {C : Type 0} (x m : ℕ) (xs : List Example) → stopped x ≡ gathered xs m → C
not_stopped x m xs e = let z : ◌≡◌ {A = ℕ} 0 1 = cc in absurd (omega arith)

more_parts : (x : Example) (s : Side) (ys : List Example) (m : ℕ) → more x s ≡ gathered ys m → (zs : List Example) × (ys ≡ x ∷ zs) × (s ≡ gathered zs m)
unfolding more
more_parts x (gathered zs n) ys m e = (zs, cc, cc)
more_parts x (stopped n) ys m e = not_stopped n m ys e

next-parts : (k : ℕ) (x : Example) (s : Side) (ys : List Example) (m : ℕ) → next_example k x s ≡ gathered ys m → (zs : List Example) × (ys ≡ x ∷ zs) × (s ≡ gathered zs m)
next-parts k x s ys m e =
    cases (ltb k example_limit)
    (λ h. more_parts x s ys m (sym (next-room k x s (ltb-true k example_limit h)) ∙ e))
    (λ h. not_stopped 14 m ys (sym (next-none k x s (ltb-false k example_limit h)) ∙ e))

positive : (n : ℕ) → (n ≡ 0 → ⊥) → 1 ≤ n
positive zero ne = absurd (ne refl)
positive (suc n) ne = omega arith

-- the rest of a list that has an element more, or none

drop-parts : (i : ℕ) (xs : List Example) (y : Example) (zs : List Example) → drop i xs ≡ y ∷ zs → (i < length xs) × ((y ≡ nth xs i) × (drop (suc i) xs ≡ zs))
unfolding nth
drop-parts i xs y zs e =
    cases (ltb i (length xs))
    (λ h.
    let l = ltb-true i (length xs) h in
    let f : get_or xs i [] ∷ drop (suc i) xs ≡ y ∷ zs = sym (drop-cons xs i [] l) ∙ e in
    (l, (cc, cc)))
    (λ h.
    let l = ltb-false i (length xs) h in
    let f : [] ≡ y ∷ zs = sym (drop_of_length-le xs {i = i} l) ∙ e in
    let z : 0 ≡ suc (length zs) = ap (λ (q : List Example). length q) f in
    absurd (omega arith))

drop_all : (i : ℕ) (xs : List Example) → drop i xs ≡ [] → length xs ≤ i
drop_all i xs e =
    let z : length (drop i xs) ≡ 0 = ap (λ (q : List Example). length q) e in
    let d = length-drop i xs in
    omega arith

module _ (e : ℕ) (sets : List ℕ) (ps : List Production) (ahead : Option ℕ) (es : List TraceEdge) (start : Item) where
  -- of the examples xs of the whole listing, so many are passed
  pub record Passed (wanted : ℕ) (xs : List Example) (k m left c : ℕ) : Type 0 where
    pub number : ℕ
    pub within : number + left ≡ wanted
    pub few : number ≤ length xs
    pub same : rest_side e sets ps ahead es start c (k + number) ≡ gathered (drop number xs) m

  unfoldable pub Seeks : ℕ → ℕ → ℕ → Type 0
  Seeks wanted left c = (xs : List Example) (k m : ℕ) → listed_by e sets ps es ahead start k ≡ gathered xs m → Passed wanted xs k m left c

  pub seek-first : (wanted : ℕ) → Seeks wanted wanted 0
  unfolding Seeks
  seek-first wanted = λ xs k m h.
      let z : k + 0 ≡ k = omega arith in
      record { number = 0; within = omega arith; few = omega arith; same = rw z (rest-first e sets ps ahead es start k ∙ h) }

  -- a hit, p its trial
  module _ (wanted left c n : ℕ) (S : Seeks wanted left c) (p : Path) (next : (k : ℕ) → rest_side e sets ps ahead es start c k ≡ next_example k (labels_of ps es p) (rest_side e sets ps ahead es start n (suc k))) where
    hit-parts : (xs : List Example) (k m : ℕ) → (P : Passed wanted xs k m left c)
        → (P.number < length xs) × ((labels_of ps es p ≡ nth xs P.number) × (rest_side e sets ps ahead es start n (suc (k + P.number)) ≡ gathered (drop (suc P.number) xs) m))
    hit-parts xs k m P =
        let x = next-parts (k + P.number) (labels_of ps es p) (rest_side e sets ps ahead es start n (suc (k + P.number))) (drop P.number xs) m (sym (next (k + P.number)) ∙ P.same) in
        let d = drop-parts P.number xs (labels_of ps es p) x.0 x.1 in
        (d.0, (d.1.0, x.2 ∙ ap (λ (l : List Example). gathered l m) (sym d.1.1)))

    pub seek_there : left ≡ 0 → (w rest : List ℕ) → w ≡ trial_words p ++ rest → (owners codes : List ℕ) → Tried ps es owners codes w → Finds ps es owners codes true (λ k. listed_by e sets ps es ahead start k) wanted w
    unfolding Seeks Finds
    seek_there z w rest ew owners codes W = (
      W,
      λ k x f L.
          let P = S L.examples k L.trials L.is in
          let d = hit-parts L.examples k L.trials P in
          let q = P.within in
          let y : P.number ≡ wanted = omega arith in
          record { path = p; rest = rest; words = ew; labels = d.1.0 ∙ ap (λ (i : ℕ). nth L.examples i) y ∙ L.there },
    )

    pub seek_on : (left ≡ 0 → ⊥) → Seeks wanted (left - 1) n
    unfolding Seeks
    seek_on ne = λ xs k m h.
        let P = S xs k m h in
        let d = hit-parts xs k m P in
        let q = P.within in
        let l = d.0 in
        let o = positive left ne in
        let z : k + suc P.number ≡ suc (k + P.number) = omega arith in
        record { number = suc P.number; within = omega arith; few = omega arith; same = rw z d.1.1 }

  module _ (wanted left c : ℕ) (S : Seeks wanted left c) (owners codes w : List ℕ) where
    pub seek-out : (n : ℕ) → ((k : ℕ) → rest_side e sets ps ahead es start c k ≡ gathered [] n) → Finds ps es owners codes false (λ k. listed_by e sets ps es ahead start k) wanted w
    unfolding Seeks Finds
    seek-out n all = λ k x f L.
        let P = S L.examples k L.trials L.is in
        let g : gathered [] n ≡ gathered (drop P.number L.examples) L.trials = sym (all (k + P.number)) ∙ P.same in
        let y : drop P.number L.examples ≡ [] = cc in
        let l = drop_all P.number L.examples y in
        let q = P.within in
        let i = L.inside in
        omega arith

    pub seek-over : ((k : ℕ) → rest_side e sets ps ahead es start c k ≡ stopped 13) → Finds ps es owners codes false (λ k. listed_by e sets ps es ahead start k) wanted w
    unfolding Seeks Finds
    seek-over all = λ k x f L.
        let P = S L.examples k L.trials L.is in
        not_stopped 13 L.trials (drop P.number L.examples) (sym (all (k + P.number)) ∙ P.same)
