-- The slots of a listed tail, linked from the last on, and the two lists filled (specs/Tails).
use Rattle.std.proofs.Common.{◌≡◌, ℕ, suc, ◌-◌, ◌<◌, ◌≤◌, Bool, true, false, eqb, List, ◌∷◌, length, get_or, set, sym, refl, ap, ◌∙◌, arith, length-set, get_or-set_other, get_or-set_same, eqb-true, eq-eqb}
use borrow.Author.Tests.{eqb-false}
use Rattle.lr1_base.specs.repr.Meaning.{Item}
use Rattle.lr1_base.specs.repr.Listed.{listed}
use Rattle.lr1_base.specs.repr.Packed.{symbol_words}
use Rattle.lr1_base.proofs.repr.Lists.{cases, clash}
use Rattle.lr1_base.specs.item.Items.{shifts_nonterminal}
use Rattle.table.specs.Decoded.{meaning, items_from}
use Rattle.table.specs.Index.{ItemRead}
use Rattle.table.proofs.Decoding.{fits}
use Rattle.trace.specs.Traced.{can_shift}
use Rattle.trace.specs.Held.{Working}
use Rattle.trace.specs.Tails.{tail_words, first_slot, Shifts, Leads, Collected, Linked, Usable}
use Rattle.trace.proofs.Along.{along_same}
use Rattle.trace.proofs.Turns.{work_shift}
use Rattle.trace.proofs.Passing.{packed_few}

-- one more nonterminal without a slot
pub cleared_more : (ls : List ℕ) (n : ℕ) → n < length ls → ((j : ℕ) → j < n → get_or ls j 0 ≡ 0) → (more : ℕ) → more ≡ suc n → (j : ℕ) → j < more → get_or (set ls n 0) j 0 ≡ 0
cleared_more ls n l z more e j h = cases (eqb j n)
    (λ q. rw (eqb-true j n q) (get_or-set_same ls n 0 0 l))
    (λ q. let ne = eqb-false j n q in get_or-set_other ls n j 0 0 ne ∙ z j (omega (arith, ne)))

-- no slot is linked yet
pub linked_start : (t g : List ℕ) (productions : ℕ) (ws : List ℕ) → Working t g productions ws → (rs ls : List ℕ) (count : ℕ) → length ls ≡ tail_words
    → ((n : ℕ) → n < 32 → get_or ls n 0 ≡ 0) → Linked t rs ls count count
linked_start t g productions ws W rs ls count l z = record {
  long = l;
  heads = λ n h. let f = (fits t W.accepted).few_nonterminals in rw (z n (omega arith)) (record {
    none = λ _ j a b. absurd (omega arith);
    between = λ j a b. absurd (omega arith);
    some = λ ne. absurd (ne refl);
  });
  slots = λ k a b. absurd (omega arith);
}

-- one slot further to the front, whose item cannot shift the nonterminal
leads_wider : (t rs : List ℕ) (n k count b : ℕ) → Shifts t rs n k false → Leads t rs n (suc k) count b → Leads t rs n k count b
leads_wider t rs n k count b s L = record {
  none = λ z j a c. cases (eqb j k)
      (λ q. rw (eqb-true j k q) s)
      (λ q. L.none z j (omega (arith, eqb-false j k q)) c);
  between = λ j a c. cases (eqb j k)
      (λ q. rw (eqb-true j k q) s)
      (λ q. L.between j (omega (arith, eqb-false j k q)) c);
  some = λ ne. let o = L.some ne in (omega (arith, o.0), o.1, o.2);
}

-- slot k, whose item is read, and m the nonterminal at its cursor

module _ (t rs : List ℕ) (k at next p x : ℕ) (ea : at ≡ get_or rs k 0) (R : ItemRead t at next p x) where
  here : items_from t (get_or rs k 0) ≡ record { production = p; index = x } ∷ items_from t next
  here = ap (items_from t) (sym ea) ∙ R.list

  slot-shifts : (n : ℕ) (b : Bool) → can_shift (meaning t) n (record { production = p; index = x }) ≡ b → Shifts t rs n k b
  slot-shifts n b c i is e = ap (λ (l : List Item). can_shift (meaning t) n (get_or l 0 i)) (sym e ∙ here) ∙ c

  module _ (g : List ℕ) (productions : ℕ) (ws : List ℕ) (W : Working t g productions ws)
      (ls : List ℕ) (count from : ℕ) (L : Linked t rs ls count from) (ef : from ≡ suc k) (low : 32 ≤ k) (few : k < count) where
    shift_is : (n : ℕ) → shifts_nonterminal (listed (symbol_words g p)) x n ≡ can_shift (meaning t) n (record { production = p; index = x })
    shift_is n = work_shift t g productions ws W p x n (packed_few t g productions ws W p x R.fits)

    behind : Linked t rs ls count (suc k)
    behind = rw ef at L

    small : (n : ℕ) → n < length (meaning t).nonterminals → n < 32
    small n h = let f = (fits t W.accepted).few_nonterminals in omega arith

    -- no nonterminal is at the cursor
    pub linked_skip : ((n : ℕ) → shifts_nonterminal (listed (symbol_words g p)) x n ≡ false) → Linked t rs ls count k
    linked_skip z = record {
      long = L.long;
      heads = λ n l. leads_wider t rs n k count _ (slot-shifts n false (sym (shift_is n) ∙ z n)) (behind.heads n l);
      slots = λ j a b n l s. cases (eqb j k)
          (λ d. clash _ (shift_is n ∙ (rw (eqb-true j k d) at s) (record { production = p; index = x }) (items_from t next) here) (z n))
          (λ d. behind.slots j (omega (arith, eqb-false j k d)) b n l s);
    }

    -- m is
    module _ (m : ℕ) (q : (n : ℕ) → shifts_nonterminal (listed (symbol_words g p)) x n ≡ eqb m n) (h : m < 32) (c : count ≤ tail_words) where
      can : shifts_nonterminal (listed (symbol_words g p)) x m ≡ true
      can = q m ∙ eq-eqb m m refl

      cursor_is : (n : ℕ) → can_shift (meaning t) n (record { production = p; index = x }) ≡ true → m ≡ n
      cursor_is n c = eqb-true m n (sym (q n) ∙ shift_is n ∙ c)

      none_else : (n : ℕ) → (m ≡ n → ⊥) → Shifts t rs n k false
      none_else n ne = slot-shifts n false (cases (can_shift (meaning t) n (record { production = p; index = x })) (λ c. absurd (ne (cursor_is n c))) (λ c. c))

      of_slot : (n : ℕ) → Shifts t rs n k true → m ≡ n
      of_slot n s = cursor_is n (s (record { production = p; index = x }) (items_from t next) here)

      abbrev us : List ℕ
      us = set (set ls k (get_or ls m 0)) m k

      head : get_or us m 0 ≡ k
      head = get_or-set_same (set ls k (get_or ls m 0)) m k 0 (let l = length-set ls k (get_or ls m 0) ∙ L.long in omega arith)

      slot : get_or us k 0 ≡ get_or ls m 0
      slot = get_or-set_other (set ls k (get_or ls m 0)) m k k 0 (λ z. omega arith) ∙ get_or-set_same ls k (get_or ls m 0) 0 (let l = L.long in omega arith)

      other : (j : ℕ) → (j ≡ m → ⊥) → (j ≡ k → ⊥) → get_or us j 0 ≡ get_or ls j 0
      other j a b = get_or-set_other (set ls k (get_or ls m 0)) m j k 0 a ∙ get_or-set_other ls k j (get_or ls m 0) 0 b

      first : Leads t rs m k count k
      first = record {
        none = λ z. absurd (omega arith);
        between = λ j a b. absurd (omega arith);
        some = λ _. (omega arith, few, slot-shifts m true (sym (work_shift t g productions ws W p x m (packed_few t g productions ws W p x R.fits)) ∙ can));
      }

      pub linked_put : Linked t rs (set (set ls k (get_or ls m 0)) m k) count k
      linked_put = record {
        long = length-set (set ls k (get_or ls m 0)) m k ∙ length-set ls k (get_or ls m 0) ∙ L.long;
        heads = λ n l. cases (eqb n m)
            (λ d. rw (eqb-true n m d, head) first)
            (λ d.
            let ne = eqb-false n m d in
            let y = small n l in
            rw (other n ne (λ z. omega arith)) (leads_wider t rs n k count _ (none_else n (λ z. ne (sym z))) (behind.heads n l)));
        slots = λ j a b n l s. cases (eqb j k)
            (λ d. let y = eqb-true j k d in rw (y, slot, of_slot n (rw y at s)) (behind.heads n l))
            (λ d.
            let ne = eqb-false j k d in
            rw (other j (λ z. omega arith) ne) (behind.slots j (omega (arith, ne)) b n l s));
      }

-- the words before the slots do not count

module _ (t rs us : List ℕ) (e : (j : ℕ) → first_slot ≤ j → get_or us j 0 ≡ get_or rs j 0) where
  pub collected_same : length us ≡ length rs → (tail count : ℕ) → Collected t rs tail count → Collected t us tail count
  collected_same l tail count C = record {
    long = l ∙ C.long;
    few = C.few;
    least = C.least;
    on = λ k a b. rw (e k a) (C.on k a b);
    same = λ f s n h st. rw (along_same t rs us (count - first_slot) first_slot (λ i a _. e i a)) (C.same f s n h st);
  }

  leads_same : (n from count b : ℕ) → first_slot ≤ from → Leads t rs n from count b → Leads t us n from count b
  leads_same n from count b h L = record {
    none = λ z j a c. rw (e j (omega arith)) (L.none z j a c);
    between = λ j a c. rw (e j (omega arith)) (L.between j a c);
    some = λ ne. let o = L.some ne in (o.0, o.1, rw (e b (omega (arith, o.0))) o.2);
  }

  linked_same : (ls : List ℕ) (count : ℕ) → Linked t rs ls count first_slot → Linked t us ls count first_slot
  linked_same ls count L = record {
    long = L.long;
    heads = λ n l. leads_same n first_slot count _ (omega arith) (L.heads n l);
    slots = λ k a b n l s. leads_same n (suc k) count _ (omega arith) (L.slots k a b n l (rw (e k a) at s));
  }

-- filled: no tail, or the one that is collected and linked

module _ (t rs : List ℕ) (l : length rs ≡ tail_words) where
  abbrev none : List ℕ
  none = set (set rs 0 0) 1 0

  pub none_long : length (set (set rs 0 0) 1 0) ≡ tail_words
  none_long = length-set (set rs 0 0) 1 0 ∙ length-set rs 0 0 ∙ l

  none_zeroth : get_or none 0 0 ≡ 0
  none_zeroth = get_or-set_other (set rs 0 0) 1 0 0 0 (λ z. omega arith) ∙ get_or-set_same rs 0 0 0 (omega arith)

  none_first : get_or none 1 0 ≡ 0
  none_first = get_or-set_same (set rs 0 0) 1 0 0 (let y = length-set rs 0 0 ∙ l in omega arith)

  none_other : (j : ℕ) → first_slot ≤ j → get_or none j 0 ≡ get_or rs j 0
  none_other j h = get_or-set_other (set rs 0 0) 1 j 0 0 (λ z. omega arith) ∙ get_or-set_other rs 0 j 0 0 (λ z. omega arith)

  pub usable_none : (ls : List ℕ) → Usable t (set (set rs 0 0) 1 0) ls
  usable_none ls = record {
    roomy = let y = none_long in omega arith;
    count = 0;
    ends = none_zeroth;
    collected = λ ne. absurd (ne none_first);
    linked = λ ne. absurd (ne none_first);
  }

  module _ (tail count : ℕ) (C : Collected t rs tail count) where
    pub none_collected : Collected t (set (set rs 0 0) 1 0) tail count
    none_collected = collected_same t rs none none_other (none_long ∙ sym l) tail count C

    pub usable_put : (ls : List ℕ) → Linked t (set (set rs 0 0) 1 0) ls count first_slot → Usable t (set (set (set rs 0 0) 1 0) 1 tail) ls
    usable_put ls L = record {
      roomy = let y = long in omega arith;
      count = count;
      ends = get_or-set_other none 1 0 tail 0 (λ z. omega arith) ∙ none_zeroth;
      collected = λ _. rw first (collected_same t none (set none 1 tail) other (length-set none 1 tail) tail count none_collected);
      linked = λ _. linked_same t none (set none 1 tail) other ls count L;
    }
      where
        long : length (set none 1 tail) ≡ tail_words
        long = length-set none 1 tail ∙ none_long

        first : get_or (set none 1 tail) 1 0 ≡ tail
        first = get_or-set_same none 1 tail 0 (let y = none_long in omega arith)

        other : (j : ℕ) → first_slot ≤ j → get_or (set none 1 tail) j 0 ≡ get_or none j 0
        other j h = get_or-set_other none 1 j tail 0 (λ z. omega arith)

-- nothing is listed in words that are 0
pub usable_blank : (t zs ls : List ℕ) → Usable t (0 ∷ 0 ∷ zs) ls
usable_blank t zs ls = record { roomy = omega arith; count = 0; ends = refl; collected = λ ne. absurd (ne refl); linked = λ ne. absurd (ne refl) }
