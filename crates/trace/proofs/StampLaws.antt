-- Laws of stamps (specs/Stamps): what is read after one is put; that they stay right while a trace grows; and that an item which was traced on may be stamped.
use Rattle.std.proofs.Common.{◌≡◌, ℕ, zero, suc, ◌+◌, ◌*◌, ◌/◌, ◌%◌, ◌<◌, ◌≤◌, Bool, true, false, eqb, List, length, get_or, set, replicate, sym, refl, ap, ◌∙◌, arith, get_or-set_other, get_or-set_same, eq-eqb, ne_eqb, eqb-true}
use borrow.Author.Tests.{eqb-false}
use Rattle.lr1_base.specs.repr.Sizes.{index_limit}
use Rattle.lr1_base.specs.repr.Lists.{mem}
use Rattle.lr1_base.specs.repr.Meaning.{Item, Table, TableFits, ItemFits}
use Rattle.lr1_base.proofs.repr.Lists.{cases}
use Rattle.state_graph.specs.Walk.{traced_back}
use Rattle.trace.specs.Traced.{Trace, pair, owner_of, prefix_of}
use Rattle.trace.specs.Reduce.{item_of_reduce, state_of_reduce}
use Rattle.trace.specs.Met.{ItemMet}
use Rattle.trace.proofs.Seen.{pair_lt}
use Rattle.trace.proofs.Grows.{Grows}
use Rattle.trace.proofs.Fuel.{owner_lt, back_inside}
use Rattle.trace.proofs.Repeated.{met_after, met_stays}
use Rattle.trace.proofs.Distinct.{code-item, code_small}
use Rattle.lr1_base.specs.bits.Bits.{bit_at}
use Rattle.trace.specs.Held.{Held, open_bits, unset}
use Rattle.trace.specs.Stamps.{stamp_words, stamp_read_at, Stamped}
use Rattle.trace.proofs.Turns.{open_set, open_unset}
use Rattle.lr1_base.proofs.laws.Lists.{zero_at}
use Rattle.lr1_base.specs.item.Places.{item_at_place}

-- by the code's parity

pub stamp_even : (ws : List ℕ) (c : ℕ) → c % 2 ≡ 0 → stamp_read_at ws c ≡ get_or ws (c / 2) 0 % 256
unfolding stamp_read_at
stamp_even ws c e = rw (eq-eqb (c % 2) 0 e, stamp_read_at)

pub stamp_odd : (ws : List ℕ) (c : ℕ) → (c % 2 ≡ 0 → ⊥) → stamp_read_at ws c ≡ get_or ws (c / 2) 0 / 256
unfolding stamp_read_at
stamp_odd ws c e = rw (ne_eqb (c % 2) 0 e, stamp_read_at)

stamp_none : (n c : ℕ) → stamp_read_at (replicate n 0) c ≡ 0
stamp_none n c =
    let z = zero_at n (c / 2) in
    cases (eqb (c % 2) 0)
    (λ q. stamp_even (replicate n 0) c (eqb-true (c % 2) 0 q) ∙ rw z)
    (λ q. stamp_odd (replicate n 0) c (eqb-false (c % 2) 0 q) ∙ rw z)

-- a word that keeps the byte of the other code

module _ (ws : List ℕ) (c x : ℕ) (inside : c / 2 < length ws) where
  abbrev put : List ℕ
  put = set ws (c / 2) x

  -- of another word
  apart : (k : ℕ) → (k / 2 ≡ c / 2 → ⊥) → stamp_read_at put k ≡ stamp_read_at ws k
  apart k ne =
      let o = get_or-set_other ws (c / 2) (k / 2) x 0 ne in
      cases (eqb (k % 2) 0)
      (λ q. let e = eqb-true (k % 2) 0 q in stamp_even put k e ∙ rw o (sym (stamp_even ws k e)))
      (λ q. let e = eqb-false (k % 2) 0 q in stamp_odd put k e ∙ rw o (sym (stamp_odd ws k e)))

  here : (k : ℕ) → k / 2 ≡ c / 2 → get_or put (k / 2) 0 ≡ x
  here k e = rw e (get_or-set_same ws (c / 2) x 0 inside)

  beside_even : c % 2 ≡ 0 → x / 256 ≡ get_or ws (c / 2) 0 / 256 → (k : ℕ) → (k ≡ c → ⊥) → stamp_read_at put k ≡ stamp_read_at ws k
  beside_even e h k ne =
      cases (eqb (k / 2) (c / 2))
      (λ q.
      let z = eqb-true (k / 2) (c / 2) q in
      let odd : k % 2 ≡ 0 → ⊥ = λ d. ne (omega arith) in
      stamp_odd put k odd ∙ rw (here k z) (h ∙ rw (← z) (sym (stamp_odd ws k odd))))
      (λ q. apart k (eqb-false (k / 2) (c / 2) q))

  beside_odd : (c % 2 ≡ 0 → ⊥) → x % 256 ≡ get_or ws (c / 2) 0 % 256 → (k : ℕ) → (k ≡ c → ⊥) → stamp_read_at put k ≡ stamp_read_at ws k
  beside_odd e h k ne =
      cases (eqb (k / 2) (c / 2))
      (λ q.
      let z = eqb-true (k / 2) (c / 2) q in
      let even : k % 2 ≡ 0 = even_one z (eqb (k % 2) 0) refl in
      stamp_even put k even ∙ rw (here k z) (h ∙ rw (← z) (sym (stamp_even ws k even))))
      (λ q. apart k (eqb-false (k / 2) (c / 2) q))
    where
      even_one : k / 2 ≡ c / 2 → (b : Bool) → eqb (k % 2) 0 ≡ b → k % 2 ≡ 0
      even_one z true q = eqb-true (k % 2) 0 q
      even_one z false q = let odd = eqb-false (k % 2) 0 q in absurd (ne (omega (arith, odd, e)))

  -- a stamp put: it is there, and all others are as before
  module _ (b s : ℕ) (eb : b ≡ get_or ws (c / 2) 0) (small : s < 256) where
    pub put_even : c % 2 ≡ 0 → x ≡ b / 256 * 256 + s → (stamp_read_at put c ≡ s) × ((k : ℕ) → (k ≡ c → ⊥) → stamp_read_at put k ≡ stamp_read_at ws k)
    put_even e ex =
        let a : x % 256 ≡ s = omega arith in
        let d : x / 256 ≡ get_or ws (c / 2) 0 / 256 = omega arith in
        (stamp_even put c e ∙ rw (here c refl) a, beside_even e d)

    pub put_odd : (c % 2 ≡ 0 → ⊥) → x ≡ s * 256 + b % 256 → (stamp_read_at put c ≡ s) × ((k : ℕ) → (k ≡ c → ⊥) → stamp_read_at put k ≡ stamp_read_at ws k)
    put_odd e ex =
        let a : x / 256 ≡ s = omega arith in
        let d : x % 256 ≡ get_or ws (c / 2) 0 % 256 = omega arith in
        (stamp_odd put c e ∙ rw (here c refl) a, beside_odd e d)

-- stamps are right of a trace that has grown, and where none is put

pub stamped_stays : (T : Table) (ss : List ℕ) {st to : Trace} → Grows st to → Stamped T ss st → Stamped T ss to
stamped_stays T ss {st} {to} g S = record { met = λ i h s e. met_stays T s i st to g (S.met i h s e) }

pub stamped_none : (T : Table) (st : Trace) → Stamped T (replicate stamp_words 0) st
stamped_none T st = record { met = λ i h s e. let z = stamp_none stamp_words (i.production * index_limit + i.index) in absurd (omega arith) }

-- no pair left: all are entered
open_none : (n : ℕ) (vs : List ℕ) → open_bits n vs ≤ 0 → (k : ℕ) → k < n → bit_at vs k ≡ true
open_none zero vs h k l = absurd (omega arith)
open_none (suc n) vs h k l =
    let rest = open_none n vs in
    cases (bit_at vs n)
    (λ b.
    let o = open_set n vs b in
    cases (eqb k n)
    (λ q. ap (bit_at vs) (eqb-true k n q) ∙ b)
    (λ q. let ne = eqb-false k n q in rest (omega arith) k (omega (arith, ne))))
    (λ b. let o = open_unset n vs b in absurd (omega arith))

module _ (T : Table) (fits : TableFits T) (s : ℕ) (inside : s < length T.states) (i : Item) (I : ItemFits T i) where
  -- an item traced on is met, with fuel for the pairs that are left
  pub traced_on : (ws fs vs : List ℕ) (f : ℕ) → unset vs ≤ f → (st : Trace) → Held T ws fs vs st → ItemMet T s i (item_of_reduce T (λ (p m : ℕ) (u : Trace). state_of_reduce T f p m u) s i st)
  traced_on ws fs vs f h st H = met_after T f s i st (λ z p m. let l = pair_in_lem p m in sym (H.seen (pair p (owner_of T i)) l) ∙ open_none 4096 vs (omega arith) (pair p (owner_of T i)) l)
    where
      pair_in_lem : (p : ℕ) → mem p (traced_back T s (prefix_of T i)) ≡ true → pair p (owner_of T i) < 4096
      pair_in_lem p m =
          let a = back_inside T fits s inside (prefix_of T i) p m in
          let b = owner_lt T fits i in
          let c = fits.few_states in
          let d = fits.few_nonterminals in
          pair_lt p (owner_of T i) (omega arith) (omega arith)

  -- so its stamp may be put
  pub stamped_put : (ss ss' : List ℕ) → stamp_read_at ss' (i.production * index_limit + i.index) ≡ s + 1 → ((c : ℕ) → (c ≡ i.production * index_limit + i.index → ⊥) → stamp_read_at ss' c ≡ stamp_read_at ss c)
      → (st : Trace) → Stamped T ss st → ItemMet T s i st → Stamped T ss' st
  stamped_put ss ss' here other st S M = record {
    met = λ j J r e.
        cases (eqb (j.production * index_limit + j.index) (i.production * index_limit + i.index))
        (λ q. same j J r e (eqb-true (j.production * index_limit + j.index) (i.production * index_limit + i.index) q))
        (λ q.
        let ne = eqb-false (j.production * index_limit + j.index) (i.production * index_limit + i.index) q in
        S.met j J r (sym (other (j.production * index_limit + j.index) ne) ∙ e));
  }
    where
      same : (j : Item) → ItemFits T j → (r : ℕ) → stamp_read_at ss' (j.production * index_limit + j.index) ≡ r + 1 → j.production * index_limit + j.index ≡ i.production * index_limit + i.index → ItemMet T r j st
      same j J r e q =
          let ej : j ≡ i = sym (code-item j (code_small T fits j J).0) ∙ ap item_at_place q ∙ code-item i (code_small T fits i I).0 in
          let w : r + 1 ≡ s + 1 = sym e ∙ ap (stamp_read_at ss') q ∙ here in
          let er : r ≡ s = omega arith in
          rw (er, ej) M
