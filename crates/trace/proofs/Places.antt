-- Gone along a chain whose tail may be listed (specs/Tails): what is left at a place, and the place after it.
use Rattle.std.proofs.Common.{◌≡◌, ℕ, zero, suc, ◌+◌, ◌-◌, ◌<◌, ◌≤◌, true, false, eqb, List, [], ◌∷◌, ◌++◌, length, get_or, take, sym, refl, ap, ◌∙◌, arith, eqb-true}
use borrow.Author.Tests.{eqb-false}
use Rattle.lr1_base.specs.repr.Meaning.{Item}
use Rattle.lr1_base.proofs.repr.Lists.{cases}
use Rattle.table.specs.Decoded.{meaning, items_from}
use Rattle.table.specs.Index.{ItemIndex, ItemRead}
use Rattle.trace.specs.Traced.{Trace, can_shift, in_turn}
use Rattle.trace.specs.Shift.{epsilon_item, epsilon}
use Rattle.trace.proofs.Grows.{turn_cons, epsilon_cannot}
use Rattle.trace.proofs.Steps.{item_step}
use Rattle.trace.specs.Tails.{along, Shifts, Leads, Usable, Begins, Follows}
use Rattle.trace.proofs.Turns.{items_none}
use Rattle.trace.proofs.Along.{along-none, along-suc, along-read}

-- slots that cannot shift the nonterminal are passed over

module _ (T : List ℕ) (n : ℕ) (go : ℕ → Trace → Trace) where
  one_idle : (l is : List Item) → ((i : Item) (js : List Item) → l ≡ i ∷ js → can_shift (meaning T) n i ≡ false) → (st : Trace)
      → in_turn (epsilon_item (meaning T) n go) (take 1 l ++ is) st ≡ in_turn (epsilon_item (meaning T) n go) is st
  one_idle [] is h st = refl
  one_idle (i ∷ js) is h st =
      turn_cons (epsilon_item (meaning T) n go) i is st ∙ ap (in_turn (epsilon_item (meaning T) n go) is) (epsilon_cannot (meaning T) n go i st (h i js refl))

  idle : (rs : List ℕ) (d j k : ℕ) → ((i : ℕ) → k ≤ i → i < k + d → Shifts T rs n i false) → (st : Trace)
      → in_turn (epsilon_item (meaning T) n go) (along T rs (d + j) k) st ≡ in_turn (epsilon_item (meaning T) n go) (along T rs j (k + d)) st
  idle rs zero j k h st =
      let y : 0 + j ≡ j = omega arith in
      let z : k ≡ k + 0 = omega arith in
      ap (λ (i : ℕ). in_turn (epsilon_item (meaning T) n go) (along T rs i k) st) y ∙ ap (λ (m : ℕ). in_turn (epsilon_item (meaning T) n go) (along T rs j m) st) z
  idle rs (suc d) j k h st =
      let y : suc d + j ≡ suc (d + j) = omega arith in
      let z : suc k + d ≡ k + suc d = omega arith in
      ap (λ (i : ℕ). in_turn (epsilon_item (meaning T) n go) (along T rs i k) st) y
      ∙ ap (λ (is : List Item). in_turn (epsilon_item (meaning T) n go) is st) (along-suc T rs (d + j) k)
      ∙ one_idle (items_from T (get_or rs k 0)) (along T rs (d + j) (suc k)) (h k (omega arith) (omega arith)) st
      ∙ idle rs d j (suc k) (λ i l m. h i (omega arith) (omega arith)) st
      ∙ ap (λ (m : ℕ). in_turn (epsilon_item (meaning T) n go) (along T rs j m) st) z

-- what is left at a place, and behind its item

unfoldable pub left : List ℕ → List ℕ → ℕ → ℕ → ℕ → List Item
left t rs count slot at = elim (eqb slot 0) [ true ↦ items_from t at | false ↦ along t rs (count - slot) slot ]

unfoldable pub behind : List ℕ → List ℕ → ℕ → ℕ → ℕ → List Item
behind t rs count slot next = elim (eqb slot 0) [ true ↦ items_from t next | false ↦ along t rs (count - suc slot) (suc slot) ]

module _ (t rs : List ℕ) (count slot at : ℕ) where
  left-chain : slot ≡ 0 → left t rs count slot at ≡ items_from t at
  unfolding left
  left-chain z = rw (z, left)

  left-listed : (slot ≡ 0 → ⊥) → left t rs count slot at ≡ along t rs (count - slot) slot
  unfolding left
  left-listed ne = cases (eqb slot 0) (λ b. absurd (ne (eqb-true slot 0 b))) (λ b. rw (b, left))

  behind-chain : slot ≡ 0 → behind t rs count slot at ≡ items_from t at
  unfolding behind
  behind-chain z = rw (z, behind)

  behind-listed : (slot ≡ 0 → ⊥) → behind t rs count slot at ≡ along t rs (count - suc slot) (suc slot)
  unfolding behind
  behind-listed ne = cases (eqb slot 0) (λ b. absurd (ne (eqb-true slot 0 b))) (λ b. rw (b, behind))

-- how much further it can be

unfoldable pub whence : List ℕ → ℕ → ℕ → ℕ
whence t slot at = elim (eqb slot 0) [ true ↦ 2001 + length (items_from t at) | false ↦ 2001 - slot ]

unfoldable pub further : List ℕ → ℕ → ℕ → ℕ
further t slot at = elim (eqb at 0) [ true ↦ 0 | false ↦ whence t slot at ]

module _ (t : List ℕ) (slot at : ℕ) where
  further_end : at ≡ 0 → further t slot at ≡ 0
  unfolding further
  further_end z = rw (z, further)

  further_on : (at ≡ 0 → ⊥) → further t slot at ≡ whence t slot at
  unfolding further
  further_on ne = cases (eqb at 0) (λ b. absurd (ne (eqb-true at 0 b))) (λ b. rw (b, further))

  further_chain : (at ≡ 0 → ⊥) → slot ≡ 0 → further t slot at ≡ 2001 + length (items_from t at)
  unfolding whence
  further_chain ne z = further_on ne ∙ rw (z, whence)

  further_listed : (at ≡ 0 → ⊥) → (slot ≡ 0 → ⊥) → further t slot at ≡ 2001 - slot
  unfolding whence
  further_listed ne ns = further_on ne ∙ cases (eqb slot 0) (λ c. absurd (ns (eqb-true slot 0 c))) (λ c. rw (c, whence))

-- a place of nonterminal n

pub record Placed (t rs ls : List ℕ) (L : Usable t rs ls) (n slot at : ℕ) : Type 0 where
  pub on : ItemIndex t at
  pub tail : (slot ≡ 0 → ⊥) → get_or rs 1 0 ≡ 0 → ⊥
  pub first : (slot ≡ 0 → ⊥) → 32 ≤ slot
  pub before : (slot ≡ 0 → ⊥) → slot < L.count
  pub record' : (slot ≡ 0 → ⊥) → at ≡ get_or rs slot 0
  pub shifts : (slot ≡ 0 → ⊥) → Shifts t rs n slot true

no_item : (t : List ℕ) → ItemIndex t 0
no_item t = record { below = omega arith; reached = λ ne. absurd (ne refl) }

module _ (t rs ls : List ℕ) (L : Usable t rs ls) (n : ℕ) (fits : n < length (meaning t).nonterminals) where
  -- a link followed
  module _ (ne : get_or rs 1 0 ≡ 0 → ⊥) (from b : ℕ) (F : 32 ≤ from) (G : from ≤ L.count) (D : Leads t rs n from L.count b) (slot at : ℕ) (es : slot ≡ b) (ea : at ≡ get_or rs slot 0) where
    link_end : slot ≡ 0 → at ≡ 0
    link_end z = ea ∙ ap (λ (k : ℕ). get_or rs k 0) z ∙ L.ends

    link_some : (slot ≡ 0 → ⊥) → (from ≤ slot) × (slot < L.count) × Shifts t rs n slot true
    link_some ns = rw es (D.some (λ z. ns (es ∙ z)))

    pub link_placed : Placed t rs ls L n slot at
    link_placed = record {
      on = cases (eqb slot 0)
          (λ c. rw (link_end (eqb-true slot 0 c)) (no_item t))
          (λ c. let w = link_some (eqb-false slot 0 c) in rw ea ((L.collected ne).on slot (let l = w.0 in omega arith) w.1).0);
      tail = λ _. ne;
      first = λ ns. let l = (link_some ns).0 in omega arith;
      before = λ ns. (link_some ns).1;
      record' = λ _. ea;
      shifts = λ ns. (link_some ns).2;
    }

    pub link_turn : (go : ℕ → Trace → Trace) (st : Trace) → in_turn (epsilon_item (meaning t) n go) (along t rs (L.count - from) from) st ≡ in_turn (epsilon_item (meaning t) n go) (left t rs L.count slot at) st
    link_turn go st = cases (eqb slot 0)
        (λ c.
        let z = eqb-true slot 0 c in
        let y : L.count - from ≡ (L.count - from) + 0 = omega arith in
        ap (λ (j : ℕ). in_turn (epsilon_item (meaning t) n go) (along t rs j from) st) y
        ∙ idle t n go rs (L.count - from) 0 from (λ i l m. D.none (sym es ∙ z) i l (omega arith)) st
        ∙ ap (λ (is : List Item). in_turn (epsilon_item (meaning t) n go) is st)
        (along-none t rs (from + (L.count - from)) ∙ sym (items_none t) ∙ ap (items_from t) (sym (link_end z)) ∙ sym (left-chain t rs L.count slot at z)))
        (λ c.
        let ns = eqb-false slot 0 c in
        let l = (link_some ns).0 in
        let m = (link_some ns).1 in
        let y : L.count - from ≡ (slot - from) + (L.count - slot) = omega arith in
        let x : from + (slot - from) ≡ slot = omega arith in
        ap (λ (j : ℕ). in_turn (epsilon_item (meaning t) n go) (along t rs j from) st) y
        ∙ idle t n go rs (slot - from) (L.count - slot) from (λ i a d. D.between i a (omega arith)) st
        ∙ ap (λ (is : List Item). in_turn (epsilon_item (meaning t) n go) is st)
        (ap (λ (k : ℕ). along t rs (L.count - slot) k) x ∙ sym (left-listed t rs L.count slot at ns)))

  -- what the code reads is there
  link_below : (ne : get_or rs 1 0 ≡ 0 → ⊥) (from b : ℕ) → Leads t rs n from L.count b → b < length rs
  link_below ne from b D =
      let few = (L.collected ne).few in
      let long = (L.collected ne).long in
      cases (eqb b 0) (λ c. let z = eqb-true b 0 c in omega arith) (λ c. let l = (D.some (eqb-false b 0 c)).1 in omega arith)

  pub begin-room : length (meaning t).nonterminals ≤ 32 → (1 < length rs) × ((get_or rs 1 0 ≡ 0 → ⊥) → (n < length ls) × (get_or ls n 0 < length rs))
  begin-room few = (L.roomy, λ ne. (let long = (L.linked ne).long in omega arith, link_below ne 32 (get_or ls n 0) ((L.linked ne).heads n fits)))

  -- a record of the chain
  module _ (from : ℕ) (I : ItemIndex t from) (slot at : ℕ) (B : Begins rs ls n from slot at) where
    listed-or : (P : Type 0) → ((slot ≡ 0) × (at ≡ from) → P) → ((get_or rs 1 0 ≡ 0 → ⊥) → from ≡ get_or rs 1 0 → (slot ≡ get_or ls n 0) × (at ≡ get_or rs slot 0) → P) → P
    listed-or P chain listed = cases (eqb from 0)
        (λ c. chain (B.chain (λ _. eqb-true from 0 c)))
        (λ c. cases (eqb from (get_or rs 1 0))
        (λ d. let e = eqb-true from (get_or rs 1 0) d in listed (λ z. eqb-false from 0 c (e ∙ z)) e (B.listed (eqb-false from 0 c) e))
        (λ d. chain (B.chain (λ e. absurd (eqb-false from (get_or rs 1 0) d e)))))

    pub begin-placed : Placed t rs ls L n slot at
    begin-placed = listed-or (Placed t rs ls L n slot at)
        (λ w. record {
          on = rw w.1 I;
          tail = λ ns. absurd (ns w.0);
          first = λ ns. absurd (ns w.0);
          before = λ ns. absurd (ns w.0);
          record' = λ ns. absurd (ns w.0);
          shifts = λ ns. absurd (ns w.0);
        })
        (λ ne e w. link_placed ne 32 (get_or ls n 0) (omega arith) (L.collected ne).least ((L.linked ne).heads n fits) slot at w.0 w.1)

    pub begin_turn : (is : List Item) → items_from t from ≡ is → (f s : ℕ) (st : Trace) → in_turn (item_step (meaning t) s n f) is st ≡ in_turn (item_step (meaning t) s n f) (left t rs L.count slot at) st
    begin_turn is q f s st = ap (λ (js : List Item). in_turn (item_step (meaning t) s n f) js st) (sym q)
        ∙ listed-or (in_turn (item_step (meaning t) s n f) (items_from t from) st ≡ in_turn (item_step (meaning t) s n f) (left t rs L.count slot at) st)
        (λ w. ap (λ (js : List Item). in_turn (item_step (meaning t) s n f) js st) (ap (items_from t) (sym w.1) ∙ sym (left-chain t rs L.count slot at w.0)))
        (λ ne e w.
        ap (λ (k : ℕ). in_turn (item_step (meaning t) s n f) (items_from t k) st) e
        ∙ sym ((L.collected ne).same f s n fits st)
        ∙ link_turn ne 32 (get_or ls n 0) (omega arith) (L.collected ne).least ((L.linked ne).heads n fits) slot at w.0 w.1 (λ m u. epsilon (meaning t) f s m u) st)

    begin_end : slot ≡ 0 → (at ≡ 0 → ⊥) → at ≡ from
    begin_end z na = listed-or (at ≡ from) (λ w. w.1) (λ ne e w. absurd (na (w.1 ∙ ap (λ (k : ℕ). get_or rs k 0) z ∙ L.ends)))

  module _ (slot at : ℕ) (P : Placed t rs ls L n slot at) where
    pub left-none : at ≡ 0 → left t rs L.count slot at ≡ []
    left-none z = cases (eqb slot 0)
        (λ c. left-chain t rs L.count slot at (eqb-true slot 0 c) ∙ ap (items_from t) z ∙ items_none t)
        (λ c. let ns = eqb-false slot 0 c in absurd (((L.collected (P.tail ns)).on slot (P.first ns) (P.before ns)).1 (sym (P.record' ns) ∙ z)))

    linked : (ns : slot ≡ 0 → ⊥) → Leads t rs n (suc slot) L.count (get_or ls slot 0)
    linked ns = (L.linked (P.tail ns)).slots slot (P.first ns) (P.before ns) n fits (P.shifts ns)

    pub after-room : (slot ≡ 0 → ⊥) → (slot < length ls) × (get_or ls slot 0 < length rs)
    after-room ns =
        let few = (L.collected (P.tail ns)).few in
        let long = (L.linked (P.tail ns)).long in
        let l = P.before ns in
        (omega arith, link_below (P.tail ns) (suc slot) (get_or ls slot 0) (linked ns))

    module _ (next p x : ℕ) (R : ItemRead t at next p x) where
      pub left-read : left t rs L.count slot at ≡ record { production = p; index = x } ∷ behind t rs L.count slot next
      left-read = cases (eqb slot 0)
          (λ c.
          let z = eqb-true slot 0 c in
          left-chain t rs L.count slot at z ∙ R.list ∙ ap (λ (is : List Item). record { production = p; index = x } ∷ is) (sym (behind-chain t rs L.count slot next z)))
          (λ c.
          let ns = eqb-false slot 0 c in
          let l = P.before ns in
          let y : L.count - slot ≡ suc (L.count - suc slot) = omega arith in
          left-listed t rs L.count slot at ns ∙ ap (λ (j : ℕ). along t rs j slot) y ∙ along-read t rs (L.count - suc slot) slot at next p x (P.record' ns) R
          ∙ ap (λ (is : List Item). record { production = p; index = x } ∷ is) (sym (behind-listed t rs L.count slot next ns)))

      -- the place after it
      module _ (slot' at' : ℕ) (F : Follows rs ls n slot next slot' at') where
        pub follow_placed : Placed t rs ls L n slot' at'
        follow_placed = cases (eqb slot 0)
            (λ c. begin-placed next R.on slot' at' (F.chain (eqb-true slot 0 c)))
            (λ c.
            let ns = eqb-false slot 0 c in
            let l = P.first ns in
            link_placed (P.tail ns) (suc slot) (get_or ls slot 0) (omega arith) (P.before ns) (linked ns) slot' at' (F.listed ns).0 (F.listed ns).1)

        pub follow_turn : (f s : ℕ) (st : Trace) → in_turn (item_step (meaning t) s n f) (behind t rs L.count slot next) st ≡ in_turn (item_step (meaning t) s n f) (left t rs L.count slot' at') st
        follow_turn f s st = cases (eqb slot 0)
            (λ c.
            let z = eqb-true slot 0 c in
            ap (λ (is : List Item). in_turn (item_step (meaning t) s n f) is st) (behind-chain t rs L.count slot next z) ∙ begin_turn next R.on slot' at' (F.chain z) (items_from t next) refl f s st)
            (λ c.
            let ns = eqb-false slot 0 c in
            let l = P.first ns in
            ap (λ (is : List Item). in_turn (item_step (meaning t) s n f) is st) (behind-listed t rs L.count slot next ns)
            ∙ link_turn (P.tail ns) (suc slot) (get_or ls slot 0) (omega arith) (P.before ns) (linked ns) slot' at' (F.listed ns).0 (F.listed ns).1 (λ m u. epsilon (meaning t) f s m u) st)

        pub follow_less : (at ≡ 0 → ⊥) → further t slot' at' < further t slot at
        follow_less na = cases (eqb at' 0)
            (λ c. rw (further_end t slot' at' (eqb-true at' 0 c)) some)
            (λ c. let na' = eqb-false at' 0 c in cases (eqb slot 0)
            (λ d.
            let z = eqb-true slot 0 d in
            let e = ap length R.list in
            let w = further_chain t slot at na z in
            cases (eqb slot' 0)
            (λ b.
            let z' = eqb-true slot' 0 b in
            let v = further_chain t slot' at' na' z' in
            let y = ap (λ (k : ℕ). length (items_from t k)) (begin_end next R.on slot' at' (F.chain z) z' na') in
            omega arith)
            (λ b. let v = further_listed t slot' at' na' (eqb-false slot' 0 b) in omega arith))
            (λ d.
            let ns = eqb-false slot 0 d in
            let w = further_listed t slot at na ns in
            let g = F.listed ns in
            let few = (L.collected (P.tail ns)).few in
            let l = P.before ns in
            cases (eqb slot' 0)
            (λ b. absurd (na' (g.1 ∙ ap (λ (k : ℕ). get_or rs k 0) (eqb-true slot' 0 b) ∙ L.ends)))
            (λ b.
            let ns' = eqb-false slot' 0 b in
            let v = further_listed t slot' at' na' ns' in
            let m = ((linked ns).some (λ y. ns' (g.0 ∙ y))).0 in
            let q = g.0 in
            omega arith)))
          where
            some : 0 < further t slot at
            some = cases (eqb slot 0)
                (λ d. let w = further_chain t slot at na (eqb-true slot 0 d) in omega arith)
                (λ d.
                let ns = eqb-false slot 0 d in
                let w = further_listed t slot at na ns in
                let few = (L.collected (P.tail ns)).few in
                let l = P.before ns in
                omega arith)
