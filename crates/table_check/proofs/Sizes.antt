-- Rows 1 and 2: their cases, and what holds of a table that they let through.
use mathlib.Core.Path.{◌≡◌, refl}
use mathlib.Core.Bool.{false, not}
use mathlib.Core.List.{List}
use Prim.Native.Nat.{ℕ, ◌+◌, ◌*◌, ◌/◌, ◌%◌, ◌≤◌, ◌<◌}
use native.Mathlib.Omega.{arith}
use lib.ListN.{length, replicate, length-replicate}
use lib.Dec.{eqb, ltb}
use borrow.Author.Tests.{eqb-true, eqb-false, ltb-false, not-false}
use Rattle.lr1_base.specs.repr.Sizes.{record_limit}
use Rattle.table.specs.Words.{word_at, records, state_area, production_area, loose}
use Rattle.table.specs.Refusals.{row1, row2}
use Rattle.table.proofs.Chains.{or-false}
use Rattle.table_check.specs.Marks.{Sized, Held, Lengths}
use Rattle.table_check.specs.Known.{AreasOf, Known}
use Rattle.table_check.specs.Passed.{Blank, Passed, Reaching}
use Rattle.table_check.specs.declared.areas.Areas.{Areas}

-- ---- row 1
pub record Whole (t : List ℕ) : Type 0 where
  pub some : 0 < length t
  pub whole : length t ≡ length t / 4 * 4
  pub few : length t ≤ 32768

pub whole_of : (t : List ℕ) → row1 t ≡ false → Whole t
unfolding row1
whole_of t e =
    let a = or-false (eqb (length t) 0) _ e in
    let b = or-false (not (eqb (length t % 4) 0)) _ a.1 in
    let n : length t ≡ 0 → ⊥ = eqb-false _ _ a.0 in
    let m : length t % 4 ≡ 0 = eqb-true _ _ (not-false _ b.0) in
    let f : length t ≤ 32768 = ltb-false _ _ b.1 in
    record { some = omega arith; whole = omega arith; few = f }

pub record Counted (t : List ℕ) : Type 0 where
  pub productions : word_at t 0 3 ≤ 128
  pub room : loose t ≤ records t

pub counted : (t : List ℕ) → row2 t ≡ false → Counted t
unfolding row2
counted t e =
    let a = or-false (eqb (word_at t 0 0) 0) _ e in
    let b = or-false (ltb 32 (word_at t 0 0)) _ a.1 in
    let c = or-false (ltb 63 (word_at t 0 1)) _ b.1 in
    let d = or-false (eqb (word_at t 0 2) 0) _ c.1 in
    let f = or-false (ltb 128 (word_at t 0 2)) _ d.1 in
    let g = or-false (ltb 128 (word_at t 0 3)) _ f.1 in
    record { productions = ltb-false _ _ g.0; room = ltb-false _ _ g.1 }

-- ---- both: whole records, at most 8,192, and the areas within them
pub record Room (t : List ℕ) : Type 0 where
  pub whole : length t ≡ records t * 4
  pub few : records t ≤ record_limit
  pub inside : loose t ≤ records t
  pub some : 0 < loose t

pub room : (t : List ℕ) → Sized t → Room t
unfolding records loose production_area state_area
room t z =
    let w = whole_of t z.words in
    let k = counted t z.counts in
    record { whole = w.whole; few = omega arith; inside = k.room; some = omega arith }

-- a word of a record can be read
pub word_in : {t : List ℕ} → Room t → (r k : ℕ) → r < records t → k < 4 → (r < record_limit) × ((k < 4) × (r * 4 + k < length t))
word_in R r k h l = omega arith

-- ---- row 2, with the counts that were read
pub record CountsAre (t : List ℕ) (n m s p : ℕ) : Type 0 where
  pub nonterminals : n ≡ word_at t 0 0
  pub terminals : m ≡ word_at t 0 1
  pub states : s ≡ word_at t 0 2
  pub productions : p ≡ word_at t 0 3

-- ---- the areas
pub surveyed : {t : List ℕ} → Sized t → {n m s p : ℕ} → CountsAre t n m s p
    → AreasOf t (record { counts = record { nonterminals = n; terminals = m; states = s; productions = p }; records = length t / 4; states_at = 1 + n; productions_at = 1 + n + s; loose_at = 1 + n + s + p })
unfolding records loose production_area state_area
surveyed {t} z {n} {m} {s} {p} C =
    let w = room t z in
    let k = counted t z.counts in
    record {
      words = w.whole;
      records = refl;
      nonterminals = C.nonterminals;
      terminals = C.terminals;
      states = C.states;
      productions = C.productions;
      states_at = rw C.nonterminals;
      productions_at = rw (C.nonterminals, C.states);
      loose_at = rw (C.nonterminals, C.states, C.productions);
      states_is = refl;
      productions_is = refl;
      loose_is = refl;
      few = w.few;
      room = rw (C.nonterminals, C.states, C.productions) k.room;
      few_productions = rw C.productions k.productions;
    }

-- ---- the rule of an index
-- ---- blank marks
pub blank : {t : List ℕ} (n : ℕ) → records t ≤ n * 64 → Blank t (replicate n 0)
blank n h = record { room = rw (length-replicate {A = ℕ} n 0) h; blank = rw (length-replicate {A = ℕ} n 0) }

-- ---- what was gathered, by the areas
module _ (t : List ℕ) (a : Areas) (A : AreasOf t a) where
  pub gathered : (hs ls : List ℕ) → Held t hs → Lengths t ls → length hs ≡ 128 → length ls ≡ 128 → Known t a hs ls
  gathered hs ls h l h' l' = record { areas = A; held = h; lengths = l; held_long = h'; lengths_long = l' }

  pub reaching : (ss is es : List ℕ)
      → Passed t a.productions_at a.counts.productions 1 a.counts.productions (loose t) ss
      → Passed t a.states_at a.counts.states 0 a.counts.states (loose t) is
      → Passed t a.states_at a.counts.states 1 a.counts.states (loose t) es
      → Reaching t (loose t) ss is es
  reaching ss is es s i e = record {
    symbols = rw (← A.productions_at, ← A.productions) s;
    items = rw (← A.states_at, ← A.states) i;
    edges = rw (← A.states_at, ← A.states) e;
  }
