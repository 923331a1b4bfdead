-- The ways through the functions of this crate: refusals 9 to 11, what was gathered, what was judged and shown (conflict_sides/specs/conflict/Outcome).
use mathlib.Core.Path.{◌≡◌, refl, sym, ap, subst, ◌∙◌}
use mathlib.Core.Bool.{Bool, true, false, ◌&&◌}
use mathlib.Core.List.{List, [], ◌∷◌, ◌++◌, map}
use mathlib.Core.Option.{none}
use Prim.Native.Nat.{ℕ, zero, suc, ◌≤◌, ◌<◌}
use native.Mathlib.Omega.{arith}
use lib.ListN.{length, take, drop}
use lib.Seq.{take_at}
use lib.Dec.{eqb, ltb, leb}
use borrow.Author.Tests.{ltb-true, leb-true, lt-ltb, le-ltb, le-leb, lt-leb, eq-eqb, ne_eqb}
use Rattle.std.specs.Prelude.{Option as OptionOf, Some, None, Result, Ok, Err}
use Rattle.lr1_base.specs.repr.Sizes.{classify_scratch, example_room, example_limit}
use Rattle.lr1_base.specs.declared.repr.refusals.Refusal.{Refusal}
use Rattle.lr1_base.specs.declared.repr.refusals.Refusal.TheVariants.{OutOfRange, EndShifted, TooShort}
use Rattle.lr1_base.specs.repr.Reply.{number_of}
use Rattle.lr1_base.specs.repr.Lists.{below}
use Rattle.lr1_base.specs.repr.Meaning.{Production, Table, All}
use Rattle.lr1_base.specs.words.Lent.{in_front, zeroed}
use Rattle.lr1_base.proofs.words.Lent.{zeroed_lent}
use Rattle.table.specs.Index.{CountsOf}
use Rattle.lr1_base.proofs.laws.Bools.{and_left, and_right}
use Rattle.enumerator.specs.example.Example.{example_words}
use Rattle.conflict_sides.specs.declared.conflict.Conflict.{Conflict}
use Rattle.conflict_sides.specs.declared.conflict.Class.{Class}
use Rattle.conflict_sides.specs.declared.conflict.Class.TheVariants.{Naive}
use Rattle.conflict_sides.specs.conflict.Numbers.{number_of_class, values_of_class, Reading, classed, refused, reading_of}
use Rattle.conflict_sides.specs.conflict.Sides.{Side, gathered, reduce_side, action_side_of, both_sides, gather}
use Rattle.conflict_sides.specs.conflict.Sorted.{sorted_from, sorted_by}
use Rattle.conflict_sides.specs.conflict.Judge.{Example, symbol_count, judge, judged}
use Rattle.conflict_sides.specs.conflict.Outcome.{Outcome, outcome, operand_fits, place_is_fit, conflict_fits, shifts_end, shown, judged_with, gathered_outcome, gathered_with, classified_in, classify_in_with}
use Rattle.conflict_sides.specs.outline.Kept.{outlines_room, nth}
use Rattle.conflicts.specs.pairs.Order.{places_in}
use Rattle.conflicts.proofs.pairs.Order.{order_sorted}
use Rattle.conflict_sides.specs.examples.Reads.{Reads}
use Rattle.conflict_sides.specs.declared.examples.Gathered.{Gathered}
use Rattle.conflict_sides.specs.examples.Gathers.{SideKept, Stops, Gathers, Sided}
use Rattle.conflicts.specs.declared.judgement.Judged.{Judged as JudgedValue}
use Rattle.conflicts.specs.judgement.Judging.{Ordered, picked, shown_in, judged_in, ShownFits, Judges}
use Rattle.conflicts.specs.classification.Shown.{judged_words, shown_of}

-- refusal 9

module _ (T : Table) (a o : ℕ) where
  operand_shift : a ≡ 0 → operand_fits T a o ≡ ltb o T.terminals
  unfolding operand_fits
  operand_shift e = rw e

  operand_reduce : a ≡ 1 → operand_fits T a o ≡ ltb o (length T.productions)
  unfolding operand_fits
  operand_reduce e = rw e

  operand_other : (a ≡ 0 → ⊥) → (a ≡ 1 → ⊥) → operand_fits T a o ≡ false
  unfolding operand_fits
  operand_other f g = other a f g
    where
      other : (b : ℕ) → (b ≡ 0 → ⊥) → (b ≡ 1 → ⊥) → operand_fits T b o ≡ false
      other zero f g = absurd (f refl)
      other (suc zero) f g = absurd (g refl)
      other (suc (suc b)) f g = refl

module _ (T : Table) (n t s p : ℕ) (C : CountsOf T n t s p) (c : Conflict) where
  pub place_state : s ≤ c.state.0 → false ≡ place_is_fit T c
  unfolding place_is_fit
  place_state h = let e = C.states in rw (le-ltb c.state.0 (length T.states) (omega arith))

  pub place-production : c.state.0 < s → p ≤ c.production.0 → false ≡ place_is_fit T c
  unfolding place_is_fit
  place-production h k =
      let e = C.states in
      let f = C.productions in
      rw (lt-ltb c.state.0 (length T.states) (omega arith), le-ltb c.production.0 (length T.productions) (omega arith))

  module _ (h : c.state.0 < s) (k : c.production.0 < p) where
    place_operand : place_is_fit T c ≡ operand_fits T c.action c.operand
    unfolding place_is_fit
    place_operand =
        let e = C.states in
        let f = C.productions in
        rw (lt-ltb c.state.0 (length T.states) (omega arith), lt-ltb c.production.0 (length T.productions) (omega arith))

    pub place-shift : c.action ≡ 0 → ltb c.operand t ≡ place_is_fit T c
    place-shift e = rw C.terminals (sym (place_operand ∙ operand_shift T c.action c.operand e))

    pub place-reduce : c.action ≡ 1 → ltb c.operand p ≡ place_is_fit T c
    place-reduce e = rw C.productions (sym (place_operand ∙ operand_reduce T c.action c.operand e))

    pub place-other : (c.action ≡ 0 → ⊥) → (c.action ≡ 1 → ⊥) → false ≡ place_is_fit T c
    place-other e f = sym (place_operand ∙ operand_other T c.action c.operand e f)

-- refusal 10

pub end_shift : (a k t : ℕ) → a ≡ 0 → eqb k t ≡ (eqb a 0 && eqb k t)
end_shift a k t e = rw (eq-eqb a 0 e)

pub end_other : (a k t : ℕ) → (a ≡ 0 → ⊥) → false ≡ (eqb a 0 && eqb k t)
end_other a k t e = rw (ne_eqb a 0 e)

-- a conflict in range
pub conflict_in : (T : Table) (c : Conflict) → conflict_fits T c ≡ true → (c.state.0 < length T.states) × ((c.production.0 < length T.productions) × (c.token ≤ T.terminals))
unfolding conflict_fits place_is_fit
conflict_in T c e =
    let p = and_left (place_is_fit T c) (leb c.token T.terminals) e in
    let s = ltb c.state.0 (length T.states) in
    let q = ltb c.production.0 (length T.productions) in
    let r = and_right s (q && operand_fits T c.action c.operand) p in (
      ltb-true c.state.0 (length T.states) (and_left s (q && operand_fits T c.action c.operand) p),
      (
        ltb-true c.production.0 (length T.productions) (and_left q (operand_fits T c.action c.operand) r),
        leb-true c.token T.terminals (and_right (place_is_fit T c) (leb c.token T.terminals) e),
      ),
    )

-- the examples that are shown

pub shown-fits : (n k : ℕ) (v : OptionOf ℕ) → v ≡ Some k → ShownFits n v → k < n
unfolding ShownFits
shown-fits n k v e f = subst (ShownFits n) e f

module _ (ps : List Production) (xs : List Example) (v : OptionOf ℕ) (b : List ℕ) where
  pub shown-number : (k : ℕ) → v ≡ Some k → (b' : List ℕ) → b' ≡ in_front (example_words ps (nth xs k)) b → b' ≡ shown ps (shown_in xs v) b
  unfolding shown shown_in
  shown-number k e b' w = w ∙ ap (λ (s : OptionOf ℕ). shown ps (shown_in xs s) b) (sym e)

  pub shown-nothing : v ≡ None → b ≡ shown ps (shown_in xs v) b
  unfolding shown shown_in
  shown-nothing e = ap (λ (s : OptionOf ℕ). shown ps (shown_in xs s) b) (sym e)

-- either side empty is naive

judge-none : (T : Table) (c : Conflict) (xs : List Example) → judge T c xs [] ≡ record { class = Naive; action = none; reduce = none }
unfolding judge
judge-none T c [] = refl
judge-none T c (x ∷ xs) = refl

module _ (T : Table) (c : Conflict) (action reduce : List ℕ) where
  pub no_action : (xs ys : List Example) → length xs ≡ 0 → judged_words Naive action reduce ≡ shown_of T.productions action reduce (judged T c xs ys)
  unfolding judged judge sorted_by sorted_from shown_of shown
  no_action [] ys e = refl
  no_action (x ∷ xs) ys e = absurd (omega arith)

  pub no_reduce : (xs ys : List Example) → length ys ≡ 0 → judged_words Naive action reduce ≡ shown_of T.productions action reduce (judged T c xs ys)
  unfolding judged sorted_by sorted_from shown_of shown
  no_reduce xs [] e = ap (shown_of T.productions action reduce) (sym (judge-none T c (sorted_by (symbol_count T.productions) xs)))
  no_reduce xs (y ∷ ys) e = absurd (omega arith)

-- a side's order

module _ (T : Table) (shift : Bool) (made : ℕ → ℕ → Example → Type 0) (xs : List Example) (kept prints : List ℕ) (K : SideKept T shift made xs kept prints) (n : ℕ) (e : length xs ≡ n) where
  pub side_sorts : (m : ℕ) → m ≡ example_limit → (n ≤ example_limit) × (n ≤ m) × (outlines_room ≤ length kept)
  side_sorts m z = let f = K.outlined.few in (omega arith, omega arith, omega (arith, K.outlined.room.by_words))

  module _ (order : List ℕ) (s : take n order ≡ sorted_by (places_in kept) (below n)) where
    pub side_long : length (take n order) ≡ n
    side_long = ap (λ (l : List ℕ). length l) s ∙ (order_sorted T.productions shift xs kept prints K.outlined n (sym e)).2

    pub side_ordered : (n ≡ 0 → ⊥) → Ordered xs (take n order)
    side_ordered h =
        let O = order_sorted T.productions shift xs kept prints K.outlined n (sym e) in
        let l = side_long in
        record { inside = subst (λ (m : ℕ). All (λ k. k < m) (take n order)) (sym e) (subst (All (λ k. k < n)) (sym s) O.1); any = omega arith }

    pub side_picked : picked xs (take n order) ≡ sorted_by (symbol_count T.productions) xs
    unfolding picked
    side_picked = ap (map (nth xs)) s ∙ (order_sorted T.productions shift xs kept prints K.outlined n (sym e)).0

-- the class and the examples shown with it
pub kept-judged : (T : Table) (c : Conflict) (xs ys as' rs : List Example) (v : JudgedValue) (action reduce action' reduce' : List ℕ) → Judges xs ys v (judge T c as' rs)
    → as' ≡ sorted_by (symbol_count T.productions) xs → rs ≡ sorted_by (symbol_count T.productions) ys
    → action' ≡ shown T.productions (shown_in xs v.action) action → reduce' ≡ shown T.productions (shown_in ys v.reduce) reduce
    → judged_words v.class action' reduce' ≡ shown_of T.productions action reduce (judged T c xs ys)
unfolding judged judged_in shown_of
kept-judged T c xs ys as' rs v action reduce action' reduce' J ea er a r =
    (λ j. judged_words v.class (a j) (r j)) ∙ ap (shown_of T.productions action reduce) (J.same ∙ (λ j. judge T c (ea j) (er j)))

-- what was gathered

module _ (T : Table) (shift : Bool) (made : ℕ → ℕ → Example → Type 0) (r : Result Gathered Refusal) (kept prints : List ℕ) (side : Side) (S : Sided T shift made r kept prints side) where
  pub side_stops : (x : Refusal) → r ≡ Err x → Stops x side
  unfolding Sided
  side_stops x e = subst (λ (s : Result Gathered Refusal). Sided T shift made s kept prints side) e S

  pub side_gathers : (g : Gathered) → r ≡ Ok g → Gathers T shift made g.examples g.trials kept prints side
  unfolding Sided
  side_gathers g e = subst (λ (s : Result Gathered Refusal). Sided T shift made s kept prints side) e S

module _ (T : Table) (c : Conflict) (w action reduce : List ℕ) where
  abbrev Action : Side
  Action = action_side_of T c.state.0 c.action c.operand c.token

  abbrev Reduce : Side
  Reduce = reduce_side T c.state.0 c.production.0 c.token

  pub action_stops : (x : Refusal) → Stops x Action → outcome (reading_of (Err x)) (zeroed classify_scratch w) action reduce ≡ gathered_outcome T c w action reduce (gather T c)
  unfolding reading_of gathered_with gather both_sides
  action_stops x h =
      let a = sym h.0 in
      (λ j. outcome (refused (number_of x) (h.1 j)) (zeroed classify_scratch w) action reduce) ∙ (λ j. gathered_outcome T c w action reduce (both_sides (a j) Reduce))

  pub reduce_stops : (xs : List Example) (m : ℕ) (x : Refusal) → Action ≡ gathered xs m → Stops x Reduce → outcome (reading_of (Err x)) (zeroed classify_scratch w) action reduce ≡ gathered_outcome T c w action reduce (gather T c)
  unfolding reading_of gathered_with gather both_sides
  reduce_stops xs m x ea h =
      let a = sym ea in
      let r = sym h.0 in
      (λ j. outcome (refused (number_of x) (h.1 j)) (zeroed classify_scratch w) action reduce) ∙ (λ j. gathered_outcome T c w action reduce (both_sides (a j) (r j)))

  pub both-judged : (xs ys : List Example) (m n : ℕ) → Action ≡ gathered xs m → Reduce ≡ gathered ys n → (class : Class) (action' reduce' : List ℕ)
      → judged_words class action' reduce' ≡ shown_of T.productions action reduce (judged T c xs ys)
      → outcome (reading_of (Ok (record { class = class; action_trials = m; reduce_trials = n }))) (zeroed classify_scratch w) action' reduce' ≡ gathered_outcome T c w action reduce (gather T c)
  unfolding reading_of gathered_with judged_with gather both_sides shown_of
  both-judged xs ys m n ea er class action' reduce' e =
      let J = judged T c xs ys in
      let a = sym ea in
      let r = sym er in
      let x : class ≡ J.class = cc in
      let y : action' ≡ shown T.productions J.action action = cc in
      let z : reduce' ≡ shown T.productions J.reduce reduce = cc in
      (λ i. outcome (classed (number_of_class (x i)) (values_of_class (x i)) m n) (zeroed classify_scratch w) (y i) (z i)) ∙ (λ j. gathered_outcome T c w action reduce (both_sides (a j) (r j)))

-- the words lent on for the productions are zeroed with the rest
pub read-zeroed : (T : Table) (c : Conflict) (o : Reading) (action reduce action' reduce' w w' front : List ℕ) (m : ℕ)
    → ((s : List ℕ) → outcome o (zeroed classify_scratch s) action' reduce' ≡ gathered_outcome T c s action reduce (gather T c))
    → length front ≡ m → m ≤ classify_scratch → w' ≡ zeroed classify_scratch (front ++ drop m w) → outcome o w' action' reduce' ≡ gathered_outcome T c w action reduce (gather T c)
read-zeroed T c o action reduce action' reduce' w w' front m e long h z =
    ap (λ (l : List ℕ). outcome o l action' reduce') (z ∙ zeroed_lent classify_scratch m front w long h) ∙ e w

-- what was packed into the words lent is what is read
pub reads-front : (t front back : List ℕ) (productions terminals : ℕ) (sets least ends : List ℕ) (m : ℕ) → length front ≡ m → Reads t front productions terminals sets least ends → Reads t (take m (front ++ back)) productions terminals sets least ends
reads-front t front back productions terminals sets least ends m long R = subst (λ (g : List ℕ). Reads t g productions terminals sets least ends) (sym (take_at front back m long)) R

-- the whole

module _ (T : Table) (c : Conflict) (scratch action reduce : List ℕ) where
  pub not-placed : place_is_fit T c ≡ false → outcome (reading_of (Err OutOfRange)) scratch action reduce ≡ classified_in c scratch action reduce T
  unfolding reading_of classify_in_with conflict_fits
  not-placed e = rw (e, classify_in_with)

  module _ (p : place_is_fit T c ≡ true) (n t s q : ℕ) (C : CountsOf T n t s q) where
    pub token_past : t < c.token → outcome (reading_of (Err OutOfRange)) scratch action reduce ≡ classified_in c scratch action reduce T
    unfolding reading_of classify_in_with conflict_fits
    token_past h = let e = C.terminals in rw (p, lt-leb c.token T.terminals (omega arith), classify_in_with)

    module _ (h : c.token ≤ t) where
      pub conflict_fits_lem : conflict_fits T c ≡ true
      unfolding conflict_fits
      conflict_fits_lem = let e = C.terminals in rw (p, le-leb c.token T.terminals (omega arith))

      pub shift_end : (b : Bool) → b ≡ (eqb c.action 0 && eqb c.token t) → b ≡ true → outcome (reading_of (Err EndShifted)) scratch action reduce ≡ classified_in c scratch action reduce T
      unfolding reading_of classify_in_with shifts_end
      shift_end b e i =
          let f : eqb c.action 0 && eqb c.token T.terminals ≡ true = ap (λ (x : ℕ). eqb c.action 0 && eqb c.token x) (sym C.terminals) ∙ sym e ∙ i in
          rw (conflict_fits_lem, f, classify_in_with)

      module _ (b : Bool) (e : b ≡ (eqb c.action 0 && eqb c.token t)) (i : b ≡ false) where
        no_end : eqb c.action 0 && eqb c.token T.terminals ≡ false
        no_end = ap (λ (x : ℕ). eqb c.action 0 && eqb c.token x) (sym C.terminals) ∙ sym e ∙ i

        pub short_scratch : length scratch < classify_scratch → outcome (reading_of (Err TooShort)) scratch action reduce ≡ classified_in c scratch action reduce T
        unfolding reading_of classify_in_with shifts_end
        short_scratch l = rw (conflict_fits_lem, no_end, lt-leb classify_scratch (length scratch) l, classify_in_with)

        pub short_action : classify_scratch ≤ length scratch → length action < example_room → outcome (reading_of (Err TooShort)) scratch action reduce ≡ classified_in c scratch action reduce T
        unfolding reading_of classify_in_with shifts_end
        short_action k l = rw (conflict_fits_lem, no_end, le-leb classify_scratch (length scratch) k, lt-leb example_room (length action) l, classify_in_with)

        pub short_reduce : classify_scratch ≤ length scratch → example_room ≤ length action → length reduce < example_room → outcome (reading_of (Err TooShort)) scratch action reduce ≡ classified_in c scratch action reduce T
        unfolding reading_of classify_in_with shifts_end
        short_reduce k m l = rw (conflict_fits_lem, no_end, le-leb classify_scratch (length scratch) k, le-leb example_room (length action) m, lt-leb example_room (length reduce) l, classify_in_with)

        pub classified : classify_scratch ≤ length scratch → example_room ≤ length action → example_room ≤ length reduce → (o : Outcome) → o ≡ gathered_outcome T c scratch action reduce (gather T c) → o ≡ classified_in c scratch action reduce T
        unfolding classify_in_with shifts_end
        classified k m l o q' = rw (conflict_fits_lem, no_end, le-leb classify_scratch (length scratch) k, le-leb example_room (length action) m, le-leb example_room (length reduce) l, classify_in_with) q'
