-- One set for each nonterminal is enough: `closure_by_aheads`.
use mathlib.Core.Path.{◌≡◌, refl, sym, ap, ◌∙◌, subst}
use mathlib.Core.Bool.{true}
use mathlib.Core.List.Memᴰ
use mathlib.Core.List.{List, [], ◌∷◌, ◌++◌, Memᴰ}
use mathlib.Core.Logic.{◌⊎◌, inl, inr, ⊎_elim}
use Prim.Native.Nat.{ℕ, suc, ◌+◌, ◌-◌, ◌*◌, ◌/◌, ◌%◌, ◌^◌, ◌≤◌, ◌<◌}
use native.Mathlib.Omega.{arith}
use lib.Dec.{eqb, ltb}
use lib.ListN.{length, get_or, replicate, length-append, length-replicate, get_or-append, get_or-eq_default}
use lib.Seq.{get_or-append-add}
use borrow.Author.Tests.{eqb-true, eqb-false, eq-eqb, ne_eqb, ltb-true, ltb-false}
use Rattle.lr1_base.specs.repr.Sizes.{index_limit}
use Rattle.lr1_base.specs.repr.Lists.{below, joined}
use Rattle.lr1_base.specs.repr.Meaning.{Symbol, nonterminal, terminal, Item, Table, production_at, SymbolFits, All, TableFits}
use Rattle.lr1_base.proofs.repr.Lists.{cases, clash, length-map-below, get_d_map-below}
use Rattle.lr1_base.specs.lookahead.Tokens.{has, union, Within}
use Rattle.lr1_base.proofs.lookahead.Laws.{has-none, has-union, union_lt}
use Rattle.lr1_base.proofs.lookahead.Sets.{within-union-left, within-union_right}
use Rattle.first.specs.Rust.{rust_first0}
use Rattle.lr1_states.specs.canonical.Canonical.{Set, rest, InFirst, Closed, given, added}
use Rattle.lr1_states.specs.canonical.States.{places, tokens, from, Move, gives_of, gives, grown, round, closure}
use Rattle.lr1_states.specs.canonical.Aheads.{ahead_of, ahead_moves, aheads, spread_at, spread}
use Rattle.lr1_states.proofs.canonical.Members.{below-mem, mem_less, joined_mem, joined_from}
use Rattle.lr1_states.proofs.canonical.Rounds.{Sized, MoveFits, grown-cases, grown-other, grown_sized, round_sized, settle-keeps, settle_sized, rest-closed}
use Rattle.lr1_states.proofs.canonical.Closure.{item, item_code_lem, tokens_at, tokens_index, tokens-item, has-inside, behind_fit, rust_lt, All-by-member, first_in, first_out}
use Rattle.lr1_states.proofs.canonical.Shortcuts.{closure_unique}
use Rattle.lr1_base.proofs.laws.Lists.{zero_at}

-- the moves

-- from place s, before the symbols ys
pub record AheadMade (T : Table) (s : ℕ) (ys : List Symbol) (m : Move) : Type 0 where
  pub n : ℕ
  pub β : List Symbol
  pub cursor : ys ≡ nonterminal n ∷ β
  pub is : m ≡ record { source = s; front = rust_first0 T β; target = places T + n }

abbrev Source : Table → Move → Type 0
Source T m =
    ((x : ℕ) × (x < places T) × AheadMade T x (from T x) m)
    ⊎ ((p : ℕ) × (p < length T.productions) × AheadMade T (places T + (production_at T p).nonterminal) (production_at T p).symbols m)

ahead_of-out : (T : Table) (s : ℕ) (ys : List Symbol) (m : Move) → Memᴰ m (ahead_of T s ys) → AheadMade T s ys m
unfolding ahead_of
ahead_of-out T s [] m i = absurd (Memᴰ.not-nil i)
ahead_of-out T s (terminal t ∷ β) m i = absurd (Memᴰ.not-nil i)
ahead_of-out T s (nonterminal n ∷ β) m i = record { n = n; β = β; cursor = refl; is = Memᴰ.eq_of_singleton i }

ahead_of_in : (T : Table) (s n : ℕ) (ys β : List Symbol) → ys ≡ nonterminal n ∷ β → Memᴰ (record { source = s; front = rust_first0 T β; target = places T + n }) (ahead_of T s ys)
unfolding ahead_of
ahead_of_in T s n ys β e = rw e (Memᴰ.head refl)

module _ (T : Table) where
  abbrev by_item : ℕ → List Move
  by_item x = ahead_of T x (from T x)

  abbrev by_production : ℕ → List Move
  by_production p = ahead_of T (places T + (production_at T p).nonterminal) (production_at T p).symbols

  source-out : (m : Move) → Memᴰ m (ahead_moves T) → Source T m
  unfolding ahead_moves
  source-out m i =
      ⊎_elim
      (λ j. let r = joined_from by_item (below (places T)) m j in inl (r.0, mem_less (places T) r.0 r.1, ahead_of-out T r.0 (from T r.0) m r.2))
      (λ j.
      let r = joined_from by_production (below (length T.productions)) m j in
      inr (r.0, mem_less (length T.productions) r.0 r.1, ahead_of-out T (places T + (production_at T r.0).nonterminal) (production_at T r.0).symbols m r.2))
      (Memᴰ.append_cases (joined by_item (below (places T))) i)

  item_in_lem : (x n : ℕ) (β : List Symbol) → x < places T → from T x ≡ nonterminal n ∷ β → Memᴰ (record { source = x; front = rust_first0 T β; target = places T + n }) (ahead_moves T)
  unfolding ahead_moves
  item_in_lem x n β h e =
      Memᴰ.append_left (joined by_production (below (length T.productions)))
      (joined_mem by_item x (below (places T)) (record { source = x; front = rust_first0 T β; target = places T + n }) (below-mem (places T) x h) (ahead_of_in T x n (from T x) β e))

  production_in_lem : (p n : ℕ) (β : List Symbol) → p < length T.productions → (production_at T p).symbols ≡ nonterminal n ∷ β
      → Memᴰ (record { source = places T + (production_at T p).nonterminal; front = rust_first0 T β; target = places T + n }) (ahead_moves T)
  unfolding ahead_moves
  production_in_lem p n β h e =
      Memᴰ.append_right (joined by_item (below (places T)))
      (joined_mem by_production p (below (length T.productions)) (record { source = places T + (production_at T p).nonterminal; front = rust_first0 T β; target = places T + n })
      (below-mem (length T.productions) p h) (ahead_of_in T (places T + (production_at T p).nonterminal) n (production_at T p).symbols β e))

  -- the sets of a state

  pub spread-first : (L : List ℕ) (x : ℕ) → x < places T → x % index_limit ≡ 0 → get_or (spread T L) x 0 ≡ union (get_or L x 0) (get_or L (places T + (production_at T (x / index_limit)).nonterminal) 0)
  unfolding spread spread_at
  spread-first L x h e = get_d_map-below (spread_at T L) (places T) x 0 h ∙ rw (eq-eqb (x % index_limit) 0 e, spread_at)

  pub spread-later : (L : List ℕ) (x : ℕ) → x < places T → (x % index_limit ≡ 0 → ⊥) → get_or (spread T L) x 0 ≡ get_or L x 0
  unfolding spread spread_at
  spread-later L x h n = get_d_map-below (spread_at T L) (places T) x 0 h ∙ rw (ne_eqb (x % index_limit) 0 n, spread_at)

  pub length-spread : (L : List ℕ) → length (spread T L) ≡ places T
  unfolding spread
  length-spread L = length-map-below (spread_at T L) (places T)

  spread_sized : (L : List ℕ) → ((x : ℕ) → get_or L x 0 < 2 ^ 64) → Sized (places T) (spread T L)
  spread_sized L f = record {
    long = length-spread L;
    fits = λ x. cases (ltb x (places T))
        (λ t. let h = ltb-true x (places T) t in cases (eqb (x % index_limit) 0)
        (λ u. rw (spread-first L x h (eqb-true (x % index_limit) 0 u)) (union_lt 64 (get_or L x 0) (get_or L (places T + (production_at T (x / index_limit)).nonterminal) 0) (f x) (f (places T + (production_at T (x / index_limit)).nonterminal))))
        (λ u. rw (spread-later L x h (eqb-false (x % index_limit) 0 u)) (f x)))
        (λ t.
        let o : length (spread T L) ≤ x = rw (length-spread L) (ltb-false x (places T) t) in
        rw (get_or-eq_default (spread T L) 0 o) (omega arith));
  }

module _ (T : Table) (F : TableFits T) where
  made_fit : (i : Item) (s : ℕ) (m : Move) → AheadMade T s (rest T i) m → MoveFits (places T + 32) m
  unfolding All SymbolFits
  made_fit i s m w =
      let f = behind_fit T F i (nonterminal w.n) w.β w.cursor in
      rw w.is (record { target = omega (arith, f.0, F.few_nonterminals); front = rust_lt T F w.β f.1 })

  abbrev head : ℕ → Item
  head p = record { production = p; index = 0 }

  pub aheads_fit : All (MoveFits (places T + 32)) (ahead_moves T)
  aheads_fit = All-by-member (MoveFits (places T + 32)) (ahead_moves T) (λ m i. by m (source-out T m i))
    where
      by : (m : Move) → Source T m → MoveFits (places T + 32) m
      by m (inl w) = made_fit (item w.0) w.0 m w.2
      by m (inr w) = made_fit (head w.0) (places T + (production_at T w.0).nonterminal) m w.2

  tail-fits : (i : Item) (n : ℕ) (β : List Symbol) → rest T i ≡ nonterminal n ∷ β → All (SymbolFits T) β
  unfolding All
  tail-fits i n β e = (behind_fit T F i (nonterminal n) β e).1

  module _ (S : List ℕ) (z : Sized (places T) S) where
    abbrev Given : Set
    Given i a = has (tokens S i) a ≡ true

    abbrev Goal : Set
    Goal = Closed T Given

    begin_at : (x : ℕ) → x < places T → get_or (S ++ replicate 32 0) x 0 ≡ get_or S x 0
    begin_at x h = get_or-append S (replicate 32 0) 0 x (rw z.long h)

    begin-none : (n : ℕ) → get_or (S ++ replicate 32 0) (places T + n) 0 ≡ 0
    begin-none n = ap (λ (k : ℕ). get_or (S ++ replicate 32 0) (k + n) 0) (sym z.long) ∙ get_or-append-add S (replicate 32 0) n 0 ∙ zero_at 32 n

    pub begin_sized : Sized (places T + 32) (S ++ replicate 32 0)
    begin_sized = record {
      long = length-append S (replicate 32 0) ∙ rw (z.long, length-replicate {A = ℕ} 32 0);
      fits = λ x. cases (ltb x (places T))
          (λ t. rw (begin_at x (ltb-true x (places T) t)) (z.fits x))
          (λ t.
          let q : places T + (x - places T) ≡ x = omega (arith, ltb-false x (places T) t) in
          let r : get_or (S ++ replicate 32 0) x 0 ≡ 0 = sym (ap (λ (k : ℕ). get_or (S ++ replicate 32 0) k 0) q) ∙ begin-none (x - places T) in
          rw r (omega arith));
    }

    -- sound

    pub record Sound (L : List ℕ) : Type 0 where
      pub old : (x : ℕ) → x < places T → get_or L x 0 ≡ get_or S x 0
      pub new : (n a : ℕ) → has (get_or L (places T + n) 0) a ≡ true → (q : ℕ) → q < length T.productions → (production_at T q).nonterminal ≡ n → Closed T Given (record { production = q; index = 0 }) a

    grown_sound : (L : List ℕ) (i : Item) (s : ℕ) (m : Move) → Sized (places T + 32) L → AheadMade T s (rest T i) m → ((a : ℕ) → has (get_or L s 0) a ≡ true → Closed T Given i a) → Sound L
        → Sound (grown T.terminals L m)
    grown_sound L i s m y w c d = record {
      old = λ x h. grown-other T.terminals L m x (λ e. omega (arith, h, e ∙ at)) ∙ d.old x h;
      new = λ n b. grown-cases T.terminals L m (rw y.long (made_fit i s m w).target) (places T + n)
          (λ (t : ℕ). has t b ≡ true → (q : ℕ) → q < length T.productions → (production_at T q).nonterminal ≡ n → Closed T Given (record { production = q; index = 0 }) b)
          (d.new n b)
          (λ e h. cases (has (get_or L (places T + n) 0) b) (d.new n b) (λ o.
          let g : has (gives T.terminals L m) b ≡ true = sym (has-union (get_or L (places T + n) 0) (gives T.terminals L m) b ∙ rw o) ∙ h in
          more n b e (rw w.is at g)));
    }
      where
        at : m.target ≡ places T + w.n
        at = ap (λ (m : Move). m.target) w.is

        more : (n b : ℕ) → places T + n ≡ m.target → has (gives_of T.terminals (rust_first0 T w.β) (get_or L s 0)) b ≡ true
            → (q : ℕ) → q < length T.productions → (production_at T q).nonterminal ≡ n → Closed T Given (record { production = q; index = 0 }) b
        more n b e g q l o =
            let v = first_out T F w.β (tail-fits i w.n w.β w.cursor) (get_or L s 0) b (y.fits s) g in
            let k : n ≡ w.n = omega (arith, e ∙ at) in
            added {i = i} {j = record { production = q; index = 0 }} w.n w.β (c v.0 v.1) w.cursor refl l (o ∙ k) v.2

    one_sound : (L : List ℕ) (m : Move) → Sized (places T + 32) L → Source T m → Sound L → Sound (grown T.terminals L m)
    one_sound L m y (inl w) d =
        grown_sound L (item w.0) w.0 m y w.2 (λ a h. given (rw (tokens-item S w.0) (rw (d.old w.0 w.1) at h))) d
    one_sound L m y (inr w) d =
        grown_sound L (head w.0) (places T + (production_at T w.0).nonterminal) m y w.2 (λ a h. d.new (production_at T w.0).nonterminal a h w.0 w.1 refl) d

    round_sound : (L : List ℕ) (ms : List Move) → All (MoveFits (places T + 32)) ms → All (Source T) ms → Sized (places T + 32) L → Sound L → Sound (round T.terminals L ms)
    unfolding round All
    round_sound L [] k w y d = d
    round_sound L (m ∷ ms) k w y d =
        round_sound (grown T.terminals L m) ms k.1 w.1 (grown_sized T.terminals (places T + 32) L m y k.0) (one_sound L m y w.0 d)

    begin_sound : Sound (S ++ replicate 32 0)
    begin_sound = record {
      old = begin_at;
      new = λ n a h q l o. clash (has (get_or (S ++ replicate 32 0) (places T + n) 0) a) h (ap (λ (s : ℕ). has s a) (begin-none n) ∙ has-none a);
    }

    pub aheads_sized : Sized (places T + 32) (aheads T S)
    unfolding aheads
    aheads_sized = settle_sized T.terminals (places T + 32) (ahead_moves T) aheads_fit (suc ((places T + 32) * 2 ^ 64)) (S ++ replicate 32 0) begin_sized

    aheads_sound : Sound (aheads T S)
    unfolding aheads
    aheads_sound =
        (settle-keeps (λ (R : List ℕ). Sized (places T + 32) R × Sound R) T.terminals (ahead_moves T)
        (λ R y. (round_sized T.terminals (places T + 32) R (ahead_moves T) y.0 aheads_fit, round_sound R (ahead_moves T) aheads_fit (All-by-member (Source T) (ahead_moves T) (source-out T)) y.0 y.1))
        (suc ((places T + 32) * 2 ^ 64)) (S ++ replicate 32 0) (begin_sized, begin_sound)).1

    aheads-closed : (m : Move) → Memᴰ m (ahead_moves T) → Within (gives T.terminals (aheads T S) m) (get_or (aheads T S) m.target 0)
    unfolding aheads
    aheads-closed m i = rest-closed T.terminals (places T + 32) (ahead_moves T) aheads_fit (S ++ replicate 32 0) begin_sized m i

    abbrev L : List ℕ
    L = aheads T S

    abbrev R : List ℕ
    R = spread T (aheads T S)

    -- complete

    spread-has : (x a : ℕ) → x < places T → has (get_or L x 0) a ≡ true → has (get_or R x 0) a ≡ true
    spread-has x a h g =
        cases (eqb (x % index_limit) 0)
        (λ t. rw (spread-first T L x h (eqb-true (x % index_limit) 0 t)) (within-union-left (get_or L x 0) (get_or L (places T + (production_at T (x / index_limit)).nonterminal) 0) a g))
        (λ t. rw (spread-later T L x h (eqb-false (x % index_limit) 0 t)) g)

    arrives : (j : Item) (n b : ℕ) → j.index ≡ 0 → j.production < length T.productions → (production_at T j.production).nonterminal ≡ n → has (get_or L (places T + n) 0) b ≡ true → has (tokens R j) b ≡ true
    arrives j n b y l o g =
        let x : ℕ = index_limit * j.production + j.index in
        let xl : x < places T = omega arith in
        let r : x % index_limit ≡ 0 = omega arith in
        let q : x / index_limit ≡ j.production = omega arith in
        let v : (production_at T (x / index_limit)).nonterminal ≡ n = ap (λ (p : ℕ). (production_at T p).nonterminal) q ∙ o in
        rw (tokens_at R j (omega arith), spread-first T L x xl r)
        (within-union_right (get_or L x 0) (get_or L (places T + (production_at T (x / index_limit)).nonterminal) 0) b (rw v g))

    by_item_lem : (i : Item) (n x a b : ℕ) (β : List Symbol) → x < places T → from T x ≡ nonterminal n ∷ β → has (get_or L x 0) a ≡ true → InFirst T β a b → has (get_or L (places T + n) 0) b ≡ true
    by_item_lem i n x a b β h e g f =
        aheads-closed (record { source = x; front = rust_first0 T β; target = places T + n }) (item_in_lem T x n β h e) b
        (first_in T F β (tail-fits (item x) n β e) (get_or L x 0) a b g f)

    by_production_lem : (p n a b : ℕ) (β : List Symbol) → p < length T.productions → (production_at T p).symbols ≡ nonterminal n ∷ β
        → has (get_or L (places T + (production_at T p).nonterminal) 0) a ≡ true → InFirst T β a b → has (get_or L (places T + n) 0) b ≡ true
    by_production_lem p n a b β h e g f =
        aheads-closed (record { source = places T + (production_at T p).nonterminal; front = rust_first0 T β; target = places T + n }) (production_in_lem T p n β h e) b
        (first_in T F β (tail-fits (head p) n β e) (get_or L (places T + (production_at T p).nonterminal) 0) a b g f)

    spread-complete : (i : Item) (a : ℕ) → Closed T Given i a → has (tokens R i) a ≡ true
    spread-complete i a (given k) =
        let u = tokens_index S i a k in
        let x : ℕ = index_limit * i.production + i.index in
        let g : has (get_or S x 0) a ≡ true = rw (tokens_at S i u) at k in
        let xl : x < places T = rw z.long at (has-inside S x a g) in
        rw (tokens_at R i u) (spread-has x a xl (rw (aheads_sound.old x xl) g))
    spread-complete j b (added {i = i} {a = a} n β c e y l o f) = arrives j n b y l o (by (spread-complete i a c))
      where
        by : has (tokens R i) a ≡ true → has (get_or L (places T + n) 0) b ≡ true
        by h =
            let u = tokens_index R i a h in
            let x : ℕ = index_limit * i.production + i.index in
            let g : has (get_or R x 0) a ≡ true = rw (tokens_at R i u) at h in
            let xl : x < places T = rw (length-spread T L) at (has-inside R x a g) in
            let cur : from T x ≡ nonterminal n ∷ β = ap (rest T) (item_code_lem i u) ∙ e in
            cases (has (get_or L x 0) a)
            (λ t. by_item_lem i n x a b β xl cur t f)
            (λ t. cases (eqb (x % index_limit) 0)
            (λ v.
            let r = eqb-true (x % index_limit) 0 v in
            let w : has (get_or L (places T + (production_at T (x / index_limit)).nonterminal) 0) a ≡ true =
            sym (has-union (get_or L x 0) (get_or L (places T + (production_at T (x / index_limit)).nonterminal) 0) a ∙ rw t) ∙ (rw (spread-first T L x xl r) at g) in
            by_production_lem (x / index_limit) n a b β (omega arith) (rw r at cur) w f)
            (λ v. clash (has (get_or L x 0) a) (rw (spread-later T L x xl (eqb-false (x % index_limit) 0 v)) at g) t))

    spread_sound : (i : Item) (a : ℕ) → has (tokens R i) a ≡ true → Closed T Given i a
    spread_sound i a h =
        let u = tokens_index R i a h in
        let x : ℕ = index_limit * i.production + i.index in
        let g : has (get_or R x 0) a ≡ true = rw (tokens_at R i u) at h in
        let xl : x < places T = rw (length-spread T L) at (has-inside R x a g) in
        subst (λ (j : Item). Closed T Given j a) (item_code_lem i u)
        (cases (has (get_or L x 0) a)
        (λ t. given (rw (tokens-item S x) (rw (aheads_sound.old x xl) at t)))
        (λ t. cases (eqb (x % index_limit) 0)
        (λ v.
        let r : x % index_limit ≡ 0 = eqb-true (x % index_limit) 0 v in
        let w : has (get_or L (places T + (production_at T (x / index_limit)).nonterminal) 0) a ≡ true =
        sym (has-union (get_or L x 0) (get_or L (places T + (production_at T (x / index_limit)).nonterminal) 0) a ∙ rw t) ∙ (rw (spread-first T L x xl r) at g) in
        subst (λ (k : ℕ). Closed T Given (record { production = x / index_limit; index = k }) a) (sym r)
        (aheads_sound.new (production_at T (x / index_limit)).nonterminal a w (x / index_limit) (omega arith) refl))
        (λ v. clash (has (get_or L x 0) a) (rw (spread-later T L x xl (eqb-false (x % index_limit) 0 v)) at g) t)))

    pub closure_by_aheads : spread T (aheads T S) ≡ closure T S
    closure_by_aheads =
        closure_unique T F Given S (spread T (aheads T S)) z (λ i a. (λ h. h, λ h. h)) (spread_sized T (aheads T S) aheads_sized.fits) (λ i a. (spread-complete i a, spread_sound i a))
