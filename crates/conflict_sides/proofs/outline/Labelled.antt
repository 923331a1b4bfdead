-- Laws of the labels that are kept of a side's first examples (specs/outline/Kept): what was put at k is read there; outlines and the labels of the others stay. Assumes nothing.
use Rattle.std.proofs.Common.{◌≡◌, ℕ, suc, ◌+◌, ◌-◌, ◌<◌, ◌≤◌, ltb, List, [], ◌∷◌, length, get_or, take, drop, sym, refl, ◌∙◌, arith, length-drop, length-take-le, get_or-drop, get_or-take, ext_get_or, ltb-false, ltb-true}
use Rattle.lr1_base.specs.repr.Sizes.{labels_room, example_limit}
use Rattle.lr1_base.specs.repr.Meaning.{Production}
use Rattle.lr1_base.proofs.repr.Lists.{cases}
use Rattle.trace_graph.proofs.Stores.{stored_after}
use Rattle.enumerator.specs.example.Labels.{labels_in, LabelsFit}
use Rattle.conflict_sides.specs.conflict.Judge.{Example}
use Rattle.conflict_sides.specs.declared.outline.Outline.{Outline}
use Rattle.conflict_sides.specs.outline.Kept.{outline_place, outline_in, turn_in, kept_with, labelled_limit, labelled_place, kept_room, label_words_in, KeptLabels, LabelsPut}
use Rattle.conflict_sides.proofs.outline.Keeping.{outline_of-words, keep-length}

-- a word of a part
part_at : (f n : ℕ) (l : List ℕ) (i : ℕ) → i < n → get_or (take n (drop f l)) i 0 ≡ get_or l (f + i) 0
part_at f n l i h = get_or-take n (drop f l) i 0 h ∙ get_or-drop f l i 0

part_length : (f n : ℕ) (l : List ℕ) → f + n ≤ length l → length (take n (drop f l)) ≡ n
part_length f n l h = length-take-le n (drop f l) (let e = length-drop f l in omega arith)

-- a part is known by its words
part_is : (f n : ℕ) (l ws : List ℕ) → f + n ≤ length l → length ws ≡ n → ((i : ℕ) → i < n → get_or l (f + i) 0 ≡ get_or ws i 0) → take n (drop f l) ≡ ws
part_is f n l ws h e s = let a = part_length f n l h in ext_get_or 0 (take n (drop f l)) ws (a ∙ sym e) (λ i q. part_at f n l i (omega arith) ∙ s i (omega arith))

-- the labels of example k where none of its words changed
pub labels_same : (ps : List Production) (kept kept' : List ℕ) (k : ℕ) (x : Example) → k < labelled_limit → kept_room ≤ length kept → length kept' ≡ length kept
    → ((i : ℕ) → labelled_place k ≤ i → i ≤ labelled_place k + labels_room → get_or kept' i 0 ≡ get_or kept i 0) → KeptLabels ps kept k x → KeptLabels ps kept' k x
unfolding label_words_in
labels_same ps kept kept' k x h r e s K =
    let z = s (labelled_place k) (omega arith) (omega arith) in
    let n = get_or kept (labelled_place k) 0 in
    let f = K.few in
    let from = labelled_place k + 1 in
    let p = part_is from n kept' (take n (drop from kept)) (omega arith) (part_length from n kept (omega arith)) (λ i q. s (from + i) (omega arith) (omega arith) ∙ sym (part_at from n kept i q)) in
    record {
      few = rw z f;
      fit = rw (z, p) K.fit;
      same = rw (z, p) K.same;
    }

-- labels put at k
module _ (ls : List ℕ) (k : ℕ) (kept kept' : List ℕ) (P : LabelsPut ls k kept kept') where
  pub put_outline : (prints : List ℕ) (j : ℕ) → j < example_limit → outline_in kept' prints j ≡ outline_in kept prints j
  unfolding outline_in
  put_outline prints j h = outline_of-words (P.before (outline_place j) (omega arith)) refl (P.before (outline_place j + 1) (omega arith)) (P.before (outline_place j + 2) (omega arith))

  pub put_turn : (j : ℕ) → j < example_limit → turn_in kept' j ≡ turn_in kept j
  unfolding turn_in
  put_turn j h = P.before (outline_place j + 3) (omega arith)

  module _ (ps : List Production) (h : k < labelled_limit) (r : kept_room ≤ length kept) where
    pub put_labels : (x : Example) → LabelsFit ps ls → labels_in ls ≡ x → KeptLabels ps kept' k x
    unfolding label_words_in
    put_labels x f e =
        let z = P.size in
        let l = P.long in
        let few = f.few in
        let w = part_is (labelled_place k + 1) (length ls) kept' ls (omega arith) refl P.here in
        record { few = rw z few; fit = rw (z, w) f; same = rw (z, w) e }

    pub put_others : (j : ℕ) → (j ≡ k → ⊥) → j < labelled_limit → length ls ≤ labels_room → (y : Example) → KeptLabels ps kept j y → KeptLabels ps kept' j y
    put_others j ne l few y K =
        labels_same ps kept kept' j y l r P.long
        (λ i a b.
        cases (ltb j k)
        (λ q. let v = ltb-true j k q in P.before i (omega arith))
        (λ q. let v = ltb-false j k q in P.after i (omega (arith, ne))))
        K

-- an outline kept at k
module _ (kept : List ℕ) (k : ℕ) (o : Outline) (t : ℕ) where
  later : (i : ℕ) → outline_place (suc k) ≤ i → get_or (kept_with kept k o t) i 0 ≡ get_or kept i 0
  unfolding kept_with
  later i h = stored_after (o.places ∷ o.first ∷ o.label ∷ t ∷ []) kept (outline_place k) i (omega arith)

  pub outlined_labels : k < example_limit → (ps : List Production) → kept_room ≤ length kept → (j : ℕ) → j < labelled_limit → (y : Example) → KeptLabels ps kept j y → KeptLabels ps (kept_with kept k o t) j y
  outlined_labels h ps r j l y K = labels_same ps kept (kept_with kept k o t) j y l r (keep-length kept k o t) (λ i a b. later i (omega arith)) K

-- `write_kept` reads the labels where they stand, n words
pub labels_read : (kept : List ℕ) (k n : ℕ) → n ≡ get_or kept (labelled_place k) 0 → take (labelled_place k + 1 + n - (labelled_place k + 1)) (drop (labelled_place k + 1) kept) ≡ label_words_in kept k
unfolding label_words_in
labels_read kept k n e = let z : labelled_place k + 1 + n - (labelled_place k + 1) ≡ n = omega arith in rw (z, e)
