-- What is kept of a side with a listing's examples behind those before (specs/examples/Gathers): of a reduce's side, which is one listing, and of a shift's, a listing more.
use Rattle.std.specs.Prelude.{Result, Ok, Err, ◌≡◌, ℕ, ◌+◌, ◌-◌, ◌*◌, ◌<◌, Bool, true, false, ltb, List, [], ◌++◌, length, get_or}
use native.Mathlib.Omega.{arith}
use mathlib.Core.Path.{refl, sym, ap, ◌∙◌, subst}
use mathlib.Core.Bool.{true≢false}
use mathlib.Core.Option.{none, some}
use lib.ListN.{length-append, get_or-append}
use lib.Seq.{get_or-drop, drop-append_seam}
use borrow.Author.Tests.{ltb-true, ltb-false}
use Rattle.lr1_base.specs.repr.Sizes.{index_limit}
use Rattle.lr1_base.specs.repr.Meaning.{Table, TableFits, production_at}
use Rattle.lr1_base.proofs.repr.Lists.{cases}
use Rattle.lr1_base.specs.lookahead.Tokens.{single}
use Rattle.trace_graph.specs.Fits.{item_is_fit}
use Rattle.trace.specs.declared.Action.TheVariants.{Shift, Reduce}
use Rattle.trace.specs.Built.{edges_by}
use Rattle.conflict_sides.specs.conflict.Judge.{Example}
use Rattle.conflict_sides.specs.conflict.Sides.{gathered, listing_side, item_of_reduce, reduce_side}
use Rattle.conflict_sides.specs.outline.Outline.{outline_from}
use Rattle.conflict_sides.specs.outline.Inline.{Shifts}
use Rattle.conflict_sides.specs.outline.Kept.{nth, outline_in, turn_in, labelled_limit, KeptLabels, Room}
use Rattle.conflict_sides.specs.declared.examples.Gathered.{Gathered}
use Rattle.lr1_base.specs.declared.repr.refusals.Refusal.{Refusal}
use Rattle.conflict_sides.specs.examples.Gathers.{Behind, ListedOn, shift_made, reduce_made, ExampleFits, SideKept, Sided}
use Rattle.conflict_sides.proofs.examples.Listed.{listed-fits, listed-first, listed-shifts}
use Rattle.lr1_base.specs.item.Places.{item_at_place}

-- none yet
pub none_kept : (T : Table) (shift : Bool) (made : ℕ → ℕ → Example → Type 0) (kept prints : List ℕ) → Room kept prints → SideKept T shift made [] kept prints
none_kept T shift made kept prints R = record {
  outlined = record { few = omega arith; room = R; each = λ k h. let z : k < 0 = h in absurd (omega arith) };
  again = λ k h. let z : k < 0 = h in absurd (omega arith);
  labels = λ k h. let z : k < 0 = h in absurd (omega arith);
  fits = λ k h. let z : k < 0 = h in absurd (omega arith);
  shifts = λ e k h. let z : k < 0 = h in absurd (omega arith);
}

-- an example of two lists, one behind the other

nth-first : (xs ys : List Example) (k : ℕ) → k < length xs → nth (xs ++ ys) k ≡ nth xs k
unfolding nth
nth-first xs ys k h = get_or-append xs ys [] k h

nth_second : (xs ys : List Example) (j : ℕ) → nth (xs ++ ys) (length xs + j) ≡ nth ys j
unfolding nth
nth_second xs ys j = sym (get_or-drop (length xs) (xs ++ ys) j []) ∙ ap (λ (l : List Example). get_or l j []) (drop-append_seam xs ys)

each_of : (P : ℕ → Example → Type 0) (xs ys : List Example) (total : ℕ) → length xs ≡ total → ((k : ℕ) → k < length xs → P k (nth xs k)) → ((j : ℕ) → j < length ys → P (total + j) (nth ys j))
    → (k : ℕ) → k < length (xs ++ ys) → P k (nth (xs ++ ys) k)
each_of P xs ys total m f g k h =
    let l = length-append xs ys in
    cases (ltb k (length xs))
    (λ b. let v = ltb-true k (length xs) b in rw (nth-first xs ys k v) (f k v))
    (λ b.
    let v = ltb-false k (length xs) b in
    let z : length xs + (k - length xs) ≡ k = omega arith in
    let y : total + (k - length xs) ≡ k = omega arith in
    let n : nth ys (k - length xs) ≡ nth (xs ++ ys) k = sym (nth_second xs ys (k - length xs)) ∙ ap (nth (xs ++ ys)) z in
    subst (P k) n (subst (λ (q : ℕ). P q (nth ys (k - length xs))) y (g (k - length xs) (omega arith))))

-- the listing of the shift item with the code c behind the examples xs

module _ (T : Table) (F : TableFits T) (s c : ℕ) (f : item_is_fit T.productions (item_at_place c).production (item_at_place c).index ≡ true) (i : (item_at_place c).index < length (production_at T (item_at_place c).production).symbols)
    (xs ys : List Example) (total n m : ℕ) (many : length xs ≡ total) (kept prints kept' prints' : List ℕ) (K : SideKept T true (shift_made T s) xs kept prints) (R : Room kept' prints')
    (B : Behind T.productions true total n ys kept prints kept' prints') (L : listing_side T (edges_by Shift T s (item_at_place c)) (item_at_place c) none total ≡ gathered ys m) where
  code-back : (item_at_place c).production * index_limit + (item_at_place c).index ≡ c
  unfolding item_at_place
  code-back = omega arith

  label_is : (j : ℕ) → j < length ys → (outline_from T.productions true (nth ys j)).label ≡ c
  unfolding outline_from
  label_is j h = listed-first T F Shift s (item_at_place c) f none total m ys L j h ∙ code-back

  made_here : (j : ℕ) → j < length ys → shift_made T s c j (nth ys j)
  unfolding shift_made
  made_here j h = record { before = total; few = let a = B.many in let b = B.few in omega arith; listed = record { examples = ys; trials = m; is = L; inside = h; there = refl } }

  pub shift_kept : SideKept T true (shift_made T s) (xs ++ ys) kept' prints'
  shift_kept = record {
    outlined = record {
      few = let a = B.many in let b = B.few in let l = length-append xs ys in omega arith;
      room = R;
      each =
          each_of (λ k x. outline_in kept' prints' k ≡ outline_from T.productions true x) xs ys total many
          (λ k h. B.same k (omega arith) ∙ K.outlined.each k h) (λ j h. B.new j h);
    };
    again =
        each_of (λ k x. shift_made T s (outline_in kept' prints' k).label (turn_in kept' k) x) xs ys total many
        (λ k h. rw (B.same k (omega arith), B.same_turn k (omega arith)) (K.again k h))
        (λ j h. rw (B.new j h, B.new_turn j h, label_is j h) (made_here j h));
    labels =
        each_of (λ k x. k < labelled_limit → KeptLabels T.productions kept' k x) xs ys total many
        (λ k h l. B.same_labels k (omega arith) l (nth xs k) (K.labels k h l)) B.new_labels;
    fits = each_of (λ k x. ExampleFits T.productions x) xs ys total many K.fits (λ j h. listed-fits T F Shift s (item_at_place c) f none total m ys L j h);
    shifts = λ e. each_of (λ k x. Shifts T.productions x) xs ys total many (K.shifts e) (λ j h. listed-shifts T F Shift s (item_at_place c) f none total m ys L j h i);
  }

-- a reduce's side

module _ (T : Table) (F : TableFits T) (s p token : ℕ) (f : item_is_fit T.productions (item_of_reduce T p).production (item_of_reduce T p).index ≡ true) (kept prints kept' prints' : List ℕ) (R : Room kept' prints') where
  module _ (n m : ℕ) (ys : List Example) (B : Behind T.productions false 0 n ys kept prints kept' prints') (L : reduce_side T s p token ≡ gathered ys m) where
    listing : listing_side T (edges_by Reduce T s (item_of_reduce T p)) (item_of_reduce T p) (some (single token)) 0 ≡ gathered ys m
    unfolding reduce_side
    listing = L

    again_here : (k : ℕ) → k < length ys → (label turn : ℕ) → turn ≡ k → reduce_made T s p token label turn (nth ys k)
    unfolding reduce_made
    again_here k h label turn e = rw e (record { examples = ys; trials = m; is = L; inside = h; there = refl })

    from_zero : (P : ℕ → Type 0) (k : ℕ) → P (0 + k) → P k
    from_zero P k h = let z : 0 + k ≡ k = omega arith in subst P z h

    reduce_kept : SideKept T false (reduce_made T s p token) ys kept' prints'
    reduce_kept = record {
      outlined = record {
        few = let a = B.many in let b = B.few in omega arith;
        room = R;
        each = λ k h. from_zero (λ q. outline_in kept' prints' q ≡ outline_from T.productions false (nth ys k)) k (B.new k h);
      };
      again = λ k h. again_here k h (outline_in kept' prints' k).label (turn_in kept' k) (from_zero (λ q. turn_in kept' q ≡ k) k (B.new_turn k h));
      labels = λ k h. from_zero (λ q. q < labelled_limit → KeptLabels T.productions kept' q (nth ys k)) k (B.new_labels k h);
      fits = λ k h. listed-fits T F Reduce s (item_of_reduce T p) f (some (single token)) 0 m ys listing k h;
      shifts = λ e. absurd (true≢false (sym e));
    }

  pub reduce_sided : (r : Result Gathered Refusal) → ListedOn T.productions false r 0 kept prints kept' prints' (reduce_side T s p token) → Sided T false (reduce_made T s p token) r kept' prints' (reduce_side T s p token)
  unfolding ListedOn Sided
  reduce_sided (Ok g) S =
      let B = S.behind in
      let a = B.many in
      record { examples = S.examples; is = S.is; many = omega arith; held = reduce_kept g.examples g.trials S.examples B S.is }
  reduce_sided (Err x) S = S
