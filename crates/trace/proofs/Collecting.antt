-- The items of a tail put into slots, each once (specs/Tails): the loop of `collect`. An item whose flag is set is in a slot, so that it changes nothing after the slots.
use Rattle.std.proofs.Common.{◌≡◌, ℕ, zero, suc, ◌+◌, ◌-◌, ◌*◌, ◌/◌, ◌<◌, ◌≤◌, Bool, true, false, ◌||◌, eqb, ltb, List, [], ◌∷◌, ◌++◌, length, get_or, take, set, replicate, sym, refl, ap, ◌∙◌, true≢false, append_assoc, arith, length-set, get_or-set_other, get_or-set_same, ltb-false, ltb-true, eqb-true}
use Rattle.std.specs.Prelude.{Option, Some, None, MatchOption, is_some, not}
use mathlib.Core.Bool.{or-true}
use borrow.Author.Tests.{eqb-false}
use Rattle.lr1_base.specs.repr.Sizes.{index_limit, item_flags}
use Rattle.lr1_base.specs.repr.Lists.{some?}
use Rattle.lr1_base.specs.repr.Meaning.{Item, ItemFits}
use Rattle.lr1_base.specs.repr.Listed.{listed}
use Rattle.lr1_base.specs.repr.Packed.{symbol_words}
use Rattle.lr1_base.proofs.repr.Lists.{cases, clash}
use Rattle.lr1_base.proofs.repr.Tests.{some?-yes, some?-append}
use Rattle.lr1_base.specs.item.Items.{shifts_nonterminal}
use Rattle.table.specs.Decoded.{meaning, items_from}
use Rattle.table.specs.Index.{ItemIndex, ItemRead}
use Rattle.trace_graph.specs.Graph.{same_item}
use Rattle.trace.specs.Traced.{Trace, can_shift, in_turn}
use Rattle.trace.specs.Shift.{epsilon}
use Rattle.trace.proofs.Once.{item_same}
use Rattle.trace.proofs.Grows.{turn_nil, turn_cons, turn_append, epsilon_cannot}
use Rattle.trace.proofs.Steps.{item_step}
use Rattle.trace.proofs.Repeated.{epsilon_again}
use Rattle.lr1_base.specs.bits.Bits.{bit_at, bit_put}
use Rattle.lr1_base.proofs.bits.Laws.{put-length, put_other, zeros_none}
use Rattle.trace.specs.Held.{Working}
use Rattle.trace.specs.Tails.{tail_words, first_slot, along, Collected}
use Rattle.trace.proofs.Turns.{items_none, work_many, work_shift}
use Rattle.trace.proofs.Along.{along-none, along-suc, along-read, along_same}

-- one more slot at the end
along-more : (t rs : List ℕ) (at next p x : ℕ) → ItemRead t at next p x → (j k i : ℕ) → i ≡ j + k → at ≡ get_or rs i 0
    → along t rs (suc j) k ≡ along t rs j k ++ (record { production = p; index = x } ∷ [])
along-more t rs at next p x R zero k i z e =
    let y : i ≡ k = omega arith in
    along-read t rs 0 k at next p x (e ∙ ap (λ (m : ℕ). get_or rs m 0) y) R ∙ ap (λ (l : List Item). record { production = p; index = x } ∷ l) (along-none t rs (suc k))
    ∙ ap (λ (l : List Item). l ++ (record { production = p; index = x } ∷ [])) (sym (along-none t rs k))
along-more t rs at next p x R (suc j) k i z e =
    let first = take 1 (items_from t (get_or rs k 0)) in
    along-suc t rs (suc j) k ∙ ap (λ (l : List Item). first ++ l) (along-more t rs at next p x R j (suc k) i (omega arith) e)
    ∙ sym (append_assoc first (along t rs j (suc k)) (record { production = p; index = x } ∷ []))
    ∙ ap (λ (l : List Item). l ++ (record { production = p; index = x } ∷ [])) (sym (along-suc t rs j k))

-- the slots before `count` and the chain from `at` on make the same turn as the tail; an item whose flag is set is in a slot
pub record Collecting (t : List ℕ) (tail : ℕ) (rs ms : List ℕ) (at count : ℕ) : Type 0 where
  pub here : ItemIndex t at
  pub long : length rs ≡ tail_words
  pub flags : length ms ≡ item_flags
  pub few : count ≤ tail_words
  pub least : first_slot ≤ count
  pub on : (k : ℕ) → first_slot ≤ k → k < count → ItemIndex t (get_or rs k 0) × (get_or rs k 0 ≡ 0 → ⊥)
  pub same : (f s n : ℕ) → n < length (meaning t).nonterminals → (st : Trace)
      → in_turn (item_step (meaning t) s n f) (items_from t at) (in_turn (item_step (meaning t) s n f) (along t rs (count - first_slot) first_slot) st)
      ≡ in_turn (item_step (meaning t) s n f) (items_from t tail) st
  pub met : (i : Item) → i.index < index_limit → bit_at ms (i.production * index_limit + i.index) ≡ true → some? (same_item i) (along t rs (count - first_slot) first_slot) ≡ true

-- an item without a nonterminal at its cursor
pub no_nonterminal : (A : Type 0) (B : ℕ → Type 0) (r : Option ℕ) → MatchOption r A B → (b : Bool) → is_some r ≡ not b → b ≡ true → A
no_nonterminal A B None m b e t = m
no_nonterminal A B (Some n) m b e t = absurd (true≢false (rw t at e))

pub shifts_none : (t g : List ℕ) (productions : ℕ) (ls : List ℕ) → Working t g productions ls → (p x : ℕ) → ItemFits (meaning t) (record { production = p; index = x })
    → ((n : ℕ) → shifts_nonterminal (listed (symbol_words g p)) x n ≡ false) → (n : ℕ) → n < length (meaning t).nonterminals → can_shift (meaning t) n (record { production = p; index = x }) ≡ false
shifts_none t g productions ls W p x I z n l =
    let m = work_many t g productions ls W in
    sym (work_shift t g productions ls W p x n (omega (arith, I.production))) ∙ z n

module _ (t : List ℕ) (tail : ℕ) (rs : List ℕ) where
  pub collecting_start : ItemIndex t tail → length rs ≡ tail_words → Collecting t tail rs (replicate item_flags 0) tail first_slot
  collecting_start i l = record {
    here = i;
    long = l;
    flags = refl;
    few = omega arith;
    least = omega arith;
    on = λ k a b. absurd (omega arith);
    same = λ f s n h st.
        ap (in_turn (item_step (meaning t) s n f) (items_from t tail))
        (ap (λ (is : List Item). in_turn (item_step (meaning t) s n f) is st) (along-none t rs first_slot) ∙ turn_nil (item_step (meaning t) s n f) st);
    met = λ i h e. let k = i.production * index_limit + i.index in clash (bit_at (replicate item_flags 0) k) e (zeros_none item_flags k);
  }

  module _ (ms : List ℕ) (at count : ℕ) (U : Collecting t tail rs ms at count) where
    pub collecting_done : at ≡ 0 → Collected t rs tail count
    collecting_done z = record {
      long = U.long;
      few = U.few;
      least = U.least;
      on = U.on;
      same = λ f s n h st.
          let to = in_turn (item_step (meaning t) s n f) (along t rs (count - first_slot) first_slot) st in
          sym (turn_nil (item_step (meaning t) s n f) to) ∙ ap (λ (is : List Item). in_turn (item_step (meaning t) s n f) is to) (sym (ap (items_from t) z ∙ items_none t))
          ∙ U.same f s n h st;
    }

    module _ (next p x : ℕ) (R : ItemRead t at next p x) where
      -- what the item makes of the slots' turn, with the chain behind it
      opened : (f s n : ℕ) → n < length (meaning t).nonterminals → (st : Trace)
          → in_turn (item_step (meaning t) s n f) (items_from t next)
          (item_step (meaning t) s n f (record { production = p; index = x }) (in_turn (item_step (meaning t) s n f) (along t rs (count - first_slot) first_slot) st))
          ≡ in_turn (item_step (meaning t) s n f) (items_from t tail) st
      opened f s n h st =
          let to = in_turn (item_step (meaning t) s n f) (along t rs (count - first_slot) first_slot) st in
          sym (turn_cons (item_step (meaning t) s n f) (record { production = p; index = x }) (items_from t next) to)
          ∙ ap (λ (is : List Item). in_turn (item_step (meaning t) s n f) is to) (sym R.list) ∙ U.same f s n h st

      -- an item that changes nothing after the slots
      past : ((f s n : ℕ) → n < length (meaning t).nonterminals → (st : Trace)
          → item_step (meaning t) s n f (record { production = p; index = x }) (in_turn (item_step (meaning t) s n f) (along t rs (count - first_slot) first_slot) st)
          ≡ in_turn (item_step (meaning t) s n f) (along t rs (count - first_slot) first_slot) st)
          → Collecting t tail rs ms next count
      past c = record {
        here = R.on;
        long = U.long;
        flags = U.flags;
        few = U.few;
        least = U.least;
        on = U.on;
        same = λ f s n h st. ap (in_turn (item_step (meaning t) s n f) (items_from t next)) (sym (c f s n h st)) ∙ opened f s n h st;
        met = U.met;
      }

      pub collecting_again : x < index_limit → bit_at ms (p * index_limit + x) ≡ true → Collecting t tail rs ms next count
      collecting_again l b =
          past (λ f s n h st. epsilon_again (meaning t) f s n (along t rs (count - first_slot) first_slot) (record { production = p; index = x }) (U.met (record { production = p; index = x }) l b) st)

      pub collecting_skip : ((n : ℕ) → n < length (meaning t).nonterminals → can_shift (meaning t) n (record { production = p; index = x }) ≡ false) → Collecting t tail rs ms next count
      collecting_skip c =
          past (λ f s n h st. epsilon_cannot (meaning t) n (λ k u. epsilon (meaning t) f s k u) (record { production = p; index = x })
          (in_turn (item_step (meaning t) s n f) (along t rs (count - first_slot) first_slot) st) (c n h))

      module _ (lx : x < index_limit) (inside : (p * index_limit + x) / 64 < item_flags) (room : count < tail_words) (ne : at ≡ 0 → ⊥) where
        slot : get_or (set rs count at) count 0 ≡ at
        slot = get_or-set_same rs count at 0 (let l = U.long in omega arith)

        other : (k : ℕ) → k < count → get_or (set rs count at) k 0 ≡ get_or rs k 0
        other k l = get_or-set_other rs count k at 0 (λ z. omega arith)

        put_along : along t (set rs count at) (suc count - first_slot) first_slot ≡ along t rs (count - first_slot) first_slot ++ (record { production = p; index = x } ∷ [])
        put_along =
            let a = U.least in
            let d : suc count - first_slot ≡ suc (count - first_slot) = omega arith in
            ap (λ (j : ℕ). along t (set rs count at) j first_slot) d
            ∙ along-more t (set rs count at) at next p x R (count - first_slot) first_slot count (omega arith) (sym slot)
            ∙ ap (λ (l : List Item). l ++ (record { production = p; index = x } ∷ [])) (along_same t rs (set rs count at) (count - first_slot) first_slot (λ i l m. other i (omega arith)))

        put_met : (i : Item) → i.index < index_limit → bit_at (bit_put ms (p * index_limit + x)) (i.production * index_limit + i.index) ≡ true
            → some? (same_item i) (along t rs (count - first_slot) first_slot ++ (record { production = p; index = x } ∷ [])) ≡ true
        put_met i l e =
            let old = along t rs (count - first_slot) first_slot in
            let code = p * index_limit + x in
            some?-append (same_item i) old (record { production = p; index = x } ∷ [])
            ∙ cases (eqb (i.production * index_limit + i.index) code)
            (λ q.
            let z = eqb-true (i.production * index_limit + i.index) code q in
            ap (λ (b : Bool). some? (same_item i) old || b) (some?-yes (same_item i) (record { production = p; index = x }) [] (equal (omega arith) (omega arith))) ∙ or-true (some? (same_item i) old))
            (λ q.
            let u = put_other ms code (i.production * index_limit + i.index) (rw U.flags inside) (eqb-false (i.production * index_limit + i.index) code q) in
            ap (λ (b : Bool). b || some? (same_item i) (record { production = p; index = x } ∷ [])) (U.met i l (sym u ∙ e)))
          where
            equal : p ≡ i.production → x ≡ i.index → same_item i (record { production = p; index = x }) ≡ true
            equal a b = rw (a, b) (item_same i)

        pub collecting_put : (us : List ℕ) → us ≡ set rs count at → (vs : List ℕ) → vs ≡ bit_put ms (p * index_limit + x) → (more : ℕ) → more ≡ suc count → Collecting t tail us vs next more
        collecting_put us eu vs ev more em = rw (eu, ev, em) (record {
          here = R.on;
          long = length-set rs count at ∙ U.long;
          flags = put-length ms (p * index_limit + x) ∙ U.flags;
          few = room;
          least = let a = U.least in omega arith;
          on = λ k a b. cases (ltb k count)
              (λ q. let l = ltb-true k count q in rw (other k l) (U.on k a l))
              (λ q. let y : k ≡ count = omega (arith, ltb-false k count q) in rw (y, slot) (U.here, ne));
          same = λ f s n h st.
              let to = in_turn (item_step (meaning t) s n f) (along t rs (count - first_slot) first_slot) st in
              ap (in_turn (item_step (meaning t) s n f) (items_from t next))
              (ap (λ (is : List Item). in_turn (item_step (meaning t) s n f) is st) put_along
              ∙ turn_append (item_step (meaning t) s n f) (along t rs (count - first_slot) first_slot) (record { production = p; index = x } ∷ []) st
              ∙ turn_cons (item_step (meaning t) s n f) (record { production = p; index = x }) [] to
              ∙ turn_nil (item_step (meaning t) s n f) (item_step (meaning t) s n f (record { production = p; index = x }) to))
              ∙ opened f s n h st;
          met = λ i l e. rw put_along (put_met i l e);
        })
