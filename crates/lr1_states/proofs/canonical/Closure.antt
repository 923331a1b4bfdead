-- The computed closure is the book's: `closure_exact`.
use mathlib.Core.Path.{◌≡◌, refl, sym, ap, ◌∙◌, subst}
use mathlib.Core.Bool.{true, false}
use mathlib.Core.List.Memᴰ
use mathlib.Core.List.{List, [], ◌∷◌, Memᴰ}
use mathlib.Core.Logic.{inl, inr, ⊎_elim, ◌↔◌}
use Prim.Native.Nat.{ℕ, suc, ◌+◌, ◌*◌, ◌/◌, ◌%◌, ◌^◌, ◌≤◌, ◌<◌}
use native.Mathlib.Omega.{arith}
use lib.Dec.{eqb, ltb}
use lib.ListN.{length, get_or, get_or-eq_default}
use borrow.Author.Tests.{eqb-true, eqb-false, eq-eqb, ltb-true, ltb-false, lt-ltb, le-ltb}
use Rattle.lr1_base.specs.repr.Sizes.{index_limit}
use Rattle.lr1_base.proofs.lookahead.Growing.{Inside}
use Rattle.lr1_base.specs.repr.Lists.{below, joined, some?}
use Rattle.lr1_base.specs.repr.Meaning.{Symbol, nonterminal, terminal, Item, Table, production_at, no_production, SymbolFits, All, ProductionFits, TableFits}
use Rattle.lr1_base.proofs.repr.Lists.{cases, clash}
use Rattle.lr1_base.proofs.repr.Tests.{All_at, All-drop, some?-below, some?-below_witness, All-map}
use Rattle.lr1_base.specs.lookahead.Tokens.{has, Within}
use Rattle.lr1_base.proofs.lookahead.Laws.{has-none, has-union, has-below}
use Rattle.lr1_base.proofs.lookahead.Sets.{empty-set}
use Rattle.first.specs.First.{join, sets_of_first}
use Rattle.first.specs.Rust.{rust_first0}
use Rattle.first.proofs.Join.{join_cases, join-left, join_right, end_marked_lt, TerminalBelow}
use Rattle.first.proofs.Least.{symbol_small, table_small, first_sets_sized}
use Rattle.first.proofs.Textbook.{Origin, first_origin, first-terminal, first_end}
use Rattle.lr1_states.specs.canonical.Canonical.{Set, rest, InFirst, Closed, given, added}
use Rattle.lr1_states.specs.canonical.States.{places, tokens, from, Move, move_to, moves, gives_of, gives, grown, round, closure}
use Rattle.lr1_states.proofs.canonical.Members.{below-mem, mem_less, joined_mem, joined_from}
use Rattle.lr1_states.proofs.canonical.Rounds.{Sized, MoveFits, gives_none, gives-some, round_sized, grown-cases, grown_sized, settle-keeps, settle_sized, settle-inside, rest-closed}

-- the list of sets holds exactly the items of the book's set
abbrev pub Describes : List ℕ → Set → Type 0
Describes S K = (i : Item) (a : ℕ) → K i a ↔ (has (tokens S i) a ≡ true)

-- numbers of items

abbrev pub item : ℕ → Item
item x = record { production = x / index_limit; index = x % index_limit }

pub item_code_lem : (i : Item) → i.index < index_limit → item (index_limit * i.production + i.index) ≡ i
item_code_lem i h =
    let p : (index_limit * i.production + i.index) / index_limit ≡ i.production = omega arith in
    let q : (index_limit * i.production + i.index) % index_limit ≡ i.index = omega arith in
    rw (p, q)

pub tokens_at : (S : List ℕ) (i : Item) → i.index < index_limit → tokens S i ≡ get_or S (index_limit * i.production + i.index) 0
unfolding tokens
tokens_at S i h = rw (lt-ltb i.index index_limit h, tokens)

pub tokens_none : (S : List ℕ) (i : Item) → index_limit ≤ i.index → tokens S i ≡ 0
unfolding tokens
tokens_none S i h = rw (le-ltb i.index index_limit h, tokens)

-- an item that has a token has a number, and the token stands there
pub tokens_index : (S : List ℕ) (i : Item) (a : ℕ) → has (tokens S i) a ≡ true → i.index < index_limit
tokens_index S i a h =
    cases (ltb i.index index_limit) (ltb-true i.index index_limit)
    (λ t. clash (has (tokens S i) a) h (ap (λ (s : ℕ). has s a) (tokens_none S i (ltb-false i.index index_limit t)) ∙ has-none a))

pub tokens-item : (S : List ℕ) (x : ℕ) → tokens S (item x) ≡ get_or S x 0
tokens-item S x =
    let q : index_limit * (x / index_limit) + x % index_limit ≡ x = omega arith in
    tokens_at S (item x) (omega arith) ∙ ap (λ (y : ℕ). get_or S y 0) q

pub has-inside : (S : List ℕ) (x a : ℕ) → has (get_or S x 0) a ≡ true → x < length S
has-inside S x a h =
    cases (ltb x (length S)) (ltb-true x (length S))
    (λ t. clash (has (get_or S x 0) a) h (ap (λ (s : ℕ). has s a) (get_or-eq_default S 0 (ltb-false x (length S) t)) ∙ has-none a))

pub tokens-within : (S R : List ℕ) → Inside S R → (i : Item) → Within (tokens S i) (tokens R i)
tokens-within S R f i a h =
    let l = tokens_index S i a h in
    rw (tokens_at R i l) (f (index_limit * i.production + i.index) a (rw (tokens_at S i l) at h))

-- a set that is not empty has a token
pub some-token : (s : ℕ) → s < 2 ^ 64 → (s ≡ 0 → ⊥) → (a : ℕ) × (has s a ≡ true)
some-token s l n =
    cases (some? (has s) (below 64))
    (λ t. let w = some?-below_witness (has s) 64 t in (w.0, w.2))
    (λ t. absurd (n (empty-set s (λ k. cases (has s k)
    (λ h. clash (some? (has s) (below 64)) (some?-below (has s) 64 k (has-below s 64 k l h) h) t)
    (λ h. h)))))

-- membership

below_in : {B : Type 0} (f : ℕ → List B) (n i : ℕ) (y : B) → i < n → Memᴰ y (f i) → Memᴰ y (joined f (below n))
below_in f n i y h m = joined_mem f i (below n) y (below-mem n i h) m

below_out : {B : Type 0} (f : ℕ → List B) (n : ℕ) (y : B) → Memᴰ y (joined f (below n)) → (i : ℕ) × (i < n) × Memᴰ y (f i)
below_out f n y m = let r = joined_from f (below n) y m in (r.0, mem_less n r.0 r.1, r.2)

pub All-by-member {ℓ} : {A : Type ℓ} (P : A → Type 0) (xs : List A) → ((x : A) → Memᴰ x xs → P x) → All P xs
unfolding All
All-by-member P [] f = tt
All-by-member P (x ∷ xs) f = (f x (Memᴰ.head refl), All-by-member P xs (λ y m. f y (Memᴰ.tail m)))

-- the moves

-- what a move is made of: an item with its cursor at a nonterminal, and a production of that
pub record Made (T : Table) (m : Move) : Type 0 where
  pub x : ℕ
  pub q : ℕ
  pub n : ℕ
  pub β : List Symbol
  pub cursor : from T x ≡ nonterminal n ∷ β
  pub production : q < length T.productions
  pub owner : (production_at T q).nonterminal ≡ n
  pub is : m ≡ record { source = x; front = rust_first0 T β; target = index_limit * q }

module _ (T : Table) where
  move_to-yes : (x q n : ℕ) (β : List Symbol) → (production_at T q).nonterminal ≡ n → move_to T x q (nonterminal n ∷ β) ≡ record { source = x; front = rust_first0 T β; target = index_limit * q } ∷ []
  unfolding move_to
  move_to-yes x q n β e = rw (eq-eqb (production_at T q).nonterminal n e, move_to)

  move_to_no : (x q n : ℕ) (β : List Symbol) → eqb (production_at T q).nonterminal n ≡ false → move_to T x q (nonterminal n ∷ β) ≡ []
  unfolding move_to
  move_to_no x q n β e = rw (e, move_to)

  move_to-out : (x q : ℕ) → q < length T.productions → (m : Move) (ys : List Symbol) → from T x ≡ ys → Memᴰ m (move_to T x q ys) → Made T m
  unfolding move_to
  move_to-out x q h m [] e i = absurd (Memᴰ.not-nil i)
  move_to-out x q h m (terminal t ∷ β) e i = absurd (Memᴰ.not-nil i)
  move_to-out x q h m (nonterminal n ∷ β) e i =
      cases (eqb (production_at T q).nonterminal n)
      (λ t. record {
        x = x;
        q = q;
        n = n;
        β = β;
        cursor = e;
        production = h;
        owner = eqb-true (production_at T q).nonterminal n t;
        is = Memᴰ.eq_of_singleton (rw (move_to-yes x q n β (eqb-true (production_at T q).nonterminal n t)) at i);
      })
      (λ t. absurd (Memᴰ.not-nil (rw (move_to_no x q n β t) at i)))

  pub moves_out : (m : Move) → Memᴰ m (moves T) → Made T m
  unfolding moves
  moves_out m i =
      let r = below_out (λ x. joined (λ q. move_to T x q (from T x)) (below (length T.productions))) (places T) m i in
      let s = below_out (λ q. move_to T r.0 q (from T r.0)) (length T.productions) m r.2 in
      move_to-out r.0 s.0 s.1 m (from T r.0) refl s.2

  pub moves_in : (x q n : ℕ) (β : List Symbol) → x < places T → q < length T.productions → from T x ≡ nonterminal n ∷ β → (production_at T q).nonterminal ≡ n
      → Memᴰ (record { source = x; front = rust_first0 T β; target = index_limit * q }) (moves T)
  unfolding moves
  moves_in x q n β h l c o =
      let m : Move = record { source = x; front = rust_first0 T β; target = index_limit * q } in
      below_in (λ x. joined (λ q. move_to T x q (from T x)) (below (length T.productions))) (places T) x m h
      (below_in (λ q. move_to T x q (from T x)) (length T.productions) q m l
      (rw c (rw (move_to-yes x q n β o) (Memᴰ.head refl))))

module _ (T : Table) (F : TableFits T) where
  -- the symbols of any production are in range, and what stands behind a cursor
  symbols_fit_lem : (p : ℕ) → All (SymbolFits T) (production_at T p).symbols
  unfolding All
  symbols_fit_lem p =
      cases (ltb p (length T.productions))
      (λ t. (All_at (ProductionFits T) T.productions p no_production F.productions (ltb-true p (length T.productions) t)).symbols)
      (λ t. rw (get_or-eq_default T.productions no_production (ltb-false p (length T.productions) t)) tt)

  pub behind_fit : (i : Item) (x : Symbol) (β : List Symbol) → rest T i ≡ x ∷ β → All (SymbolFits T) (x ∷ β)
  behind_fit i x β e = rw e at (All-drop (SymbolFits T) i.index (production_at T i.production).symbols (symbols_fit_lem i.production))

  pub rust_lt : (β : List Symbol) → All (SymbolFits T) β → rust_first0 T β < 2 ^ 64
  unfolding rust_first0
  rust_lt β f =
      end_marked_lt T.terminals 64 (sets_of_first T.terminals T.productions) (omega (arith, F.few_terminals))
      (first_sets_sized T.terminals T.productions (table_small T F)).fits β (All-map (SymbolFits T) (TerminalBelow 64) (symbol_small T F) β f)

  tail_fit : (i : Item) (x : Symbol) (β : List Symbol) → rest T i ≡ x ∷ β → All (SymbolFits T) β
  unfolding All
  tail_fit i x β e = (behind_fit i x β e).1

  pub moves_fit : All (MoveFits (places T)) (moves T)
  moves_fit = All-by-member (MoveFits (places T)) (moves T) (λ m i.
      let w = moves_out T m i in
      let f = rust_lt w.β (tail_fit (item w.x) (nonterminal w.n) w.β w.cursor) in
      rw w.is (record { target = omega (arith, w.production); front = f }))

  -- size, growth and rest of a closure

  pub closure_sized : (S : List ℕ) → Sized (places T) S → Sized (places T) (closure T S)
  unfolding closure
  closure_sized S z = settle_sized T.terminals (places T) (moves T) moves_fit (suc (places T * 2 ^ 64)) S z

  closure-inside : (S : List ℕ) → Sized (places T) S → Inside S (closure T S)
  unfolding closure
  closure-inside S z = settle-inside T.terminals (places T) (moves T) moves_fit (suc (places T * 2 ^ 64)) S z

  closure-closed : (S : List ℕ) → Sized (places T) S → (m : Move) → Memᴰ m (moves T) → Within (gives T.terminals (closure T S) m) (get_or (closure T S) m.target 0)
  unfolding closure
  closure-closed S z m i = rest-closed T.terminals (places T) (moves T) moves_fit S z m i

  -- FIRST(β a) computed is the book's

  pub first_in : (β : List Symbol) → All (SymbolFits T) β → (s a b : ℕ) → has s a ≡ true → InFirst T β a b → has (gives_of T.terminals (rust_first0 T β) s) b ≡ true
  first_in β f s a b h w =
      rw (gives-some T.terminals (rust_first0 T β) s (λ q. clash (has s a) h (ap (λ (r : ℕ). has r a) q ∙ has-none a))) (by w)
    where
      by : InFirst T β a b → has (join T.terminals (rust_first0 T β) s) b ≡ true
      by (inl w) = join-left T.terminals (rust_first0 T β) s b ((first-terminal T F β f b w.0).1 w.1) (λ q. omega (arith, q, w.0))
      by (inr w) = join_right T.terminals (rust_first0 T β) s b ((first_end T F β f).1 w.1) (ap (has s) w.0 ∙ h)

  pub first_out : (β : List Symbol) → All (SymbolFits T) β → (s b : ℕ) → s < 2 ^ 64 → has (gives_of T.terminals (rust_first0 T β) s) b ≡ true
      → (a : ℕ) × (has s a ≡ true) × InFirst T β a b
  first_out β f s b l h =
      cases (eqb s 0)
      (λ t. clash (has (gives_of T.terminals (rust_first0 T β) s) b) h (ap (λ (r : ℕ). has r b) (gives_none T.terminals (rust_first0 T β) s (eqb-true s 0 t)) ∙ has-none b))
      (λ t.
      let g : has (join T.terminals (rust_first0 T β) s) b ≡ true = rw (gives-some T.terminals (rust_first0 T β) s (eqb-false s 0 t)) at h in
      let w = some-token s l (eqb-false s 0 t) in
      ⊎_elim
      (λ v. (w.0, w.1, begins w.0 v.1 (first_origin T F β f b v.0)))
      (λ v. (b, v.1, inr (refl, (first_end T F β f).0 v.0)))
      (join_cases T.terminals (rust_first0 T β) s b g))
    where
      begins : (a : ℕ) → (b ≡ T.terminals → ⊥) → Origin T.terminals T.productions β b → InFirst T β a b
      begins a n (inl o) = absurd (n o.0)
      begins a n (inr o) = inl o

  -- sound: what the rounds reach is in the book's closure

  module _ (K : Set) where
    abbrev Sound : List ℕ → Type 0
    Sound R = (x a : ℕ) → has (get_or R x 0) a ≡ true → Closed T K (item x) a

    grown_sound : (R : List ℕ) (m : Move) → Sized (places T) R → MoveFits (places T) m → Made T m → Sound R → Sound (grown T.terminals R m)
    grown_sound R m z k w s x b =
        grown-cases T.terminals R m (rw z.long k.target) x (λ (t : ℕ). has t b ≡ true → Closed T K (item x) b) (s x b) (λ e h.
        cases (has (get_or R x 0) b) (s x b) (λ o.
        let g : has (gives T.terminals R m) b ≡ true = sym (has-union (get_or R x 0) (gives T.terminals R m) b ∙ rw o) ∙ h in
        new e (rw w.is at g)))
      where
        new : x ≡ m.target → has (gives_of T.terminals (rust_first0 T w.β) (get_or R w.x 0)) b ≡ true → Closed T K (item x) b
        new e g =
            let q : x ≡ 17 * w.q = e ∙ ap (λ (m : Move). m.target) w.is in
            let p : x / index_limit ≡ w.q = omega arith in
            let i : x % index_limit ≡ 0 = omega arith in
            let v = first_out w.β (tail_fit (item w.x) (nonterminal w.n) w.β w.cursor) (get_or R w.x 0) b (z.fits w.x) g in
            added {i = item w.x} {j = item x} w.n w.β (s w.x v.0 v.1) w.cursor i (rw p w.production) (rw p w.owner) v.2

    round_sound : (R : List ℕ) (ms : List Move) → All (MoveFits (places T)) ms → All (Made T) ms → Sized (places T) R → Sound R → Sound (round T.terminals R ms)
    unfolding round All
    round_sound R [] k w z s = s
    round_sound R (m ∷ ms) k w z s =
        round_sound (grown T.terminals R m) ms k.1 w.1 (grown_sized T.terminals (places T) R m z k.0) (grown_sound R m z k.0 w.0 s)

    closure_sound : (S : List ℕ) → Sized (places T) S → Sound S → Sound (closure T S)
    unfolding closure
    closure_sound S z s =
        (settle-keeps (λ (R : List ℕ). Sized (places T) R × Sound R) T.terminals (moves T)
        (λ R y. (round_sized T.terminals (places T) R (moves T) y.0 moves_fit, round_sound R (moves T) moves_fit (All-by-member (Made T) (moves T) (moves_out T)) y.0 y.1))
        (suc (places T * 2 ^ 64)) S (z, s)).1

    -- complete

    closure-complete : (S : List ℕ) → Sized (places T) S → Describes S K → (i : Item) (a : ℕ) → Closed T K i a → has (tokens (closure T S) i) a ≡ true
    closure-complete S z d i a (given k) = tokens-within S (closure T S) (closure-inside S z) i a ((d i a).0 k)
    closure-complete S z d j b (added {i = i} {a = a} n β c e y l o f) = by (closure-complete S z d i a c)
      where
        by : has (tokens (closure T S) i) a ≡ true → has (tokens (closure T S) j) b ≡ true
        by h =
            let C : List ℕ = closure T S in
            let u = tokens_index C i a h in
            let x : ℕ = index_limit * i.production + i.index in
            let g : has (get_or C x 0) a ≡ true = rw (tokens_at C i u) at h in
            let xl : x < places T = rw (closure_sized S z).long at (has-inside C x a g) in
            let cur : from T x ≡ nonterminal n ∷ β = ap (rest T) (item_code_lem i u) ∙ e in
            let q : 17 * j.production + j.index ≡ 17 * j.production = omega arith in
            let m = moves_in T x j.production n β xl l cur o in
            rw (tokens_at C j (omega arith), q)
            (closure-closed S z (record { source = x; front = rust_first0 T β; target = index_limit * j.production }) m b
            (first_in β (tail_fit i (nonterminal n) β e) (get_or C x 0) a b g f))

    pub closure_exact : (S : List ℕ) → Sized (places T) S → Describes S K → Describes (closure T S) (Closed T K)
    closure_exact S z d i a = (
      closure-complete S z d i a,
      λ h.
          let u = tokens_index (closure T S) i a h in
          subst (λ (j : Item). Closed T K j a) (item_code_lem i u)
          (closure_sound S z (λ x b g. given ((d (item x) b).1 (rw (tokens-item S x) g))) (index_limit * i.production + i.index) a (rw (tokens_at (closure T S) i u) at h)),
    )
