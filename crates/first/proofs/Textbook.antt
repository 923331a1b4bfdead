-- The Rust's FIRST is the textbook's (docs/RULES.md, "FIRST"), for every accepted table: a terminal is in it exactly if the list of symbols derives a
-- list that begins with it, end exactly if it derives the empty list, and nothing else is in it. No nonterminal need be productive or reachable.
use mathlib.Core.Path.{◌≡◌, refl, sym, ap, ◌∙◌}
use mathlib.Core.Bool.{true, false, ◌&&◌}
use mathlib.Core.List.{List, [], ◌∷◌, ◌++◌, Memᴰ}
use mathlib.Core.Logic.{◌⊎◌, inl, inr, ⊎_elim, ◌↔◌}
use Prim.Native.Nat.{ℕ, zero, suc, ◌<◌}
use native.Mathlib.Omega.{arith}
use lib.ListN.{get_or, replicate}
use borrow.Author.Tests.{eqb-true, eq-eqb}
use Rattle.lr1_base.specs.repr.Sizes.{nonterminal_limit}
use Rattle.lr1_base.proofs.repr.Tests.{All-map}
use Rattle.lr1_base.specs.words.Same.{same_words}
use Rattle.lr1_base.specs.repr.Meaning.{Symbol, nonterminal, terminal, Production, Table, SymbolFits, All, ProductionFits, TableFits}
use Rattle.lr1_base.proofs.repr.Lists.{cases, clash}
use Rattle.lr1_base.specs.lookahead.Tokens.{has, Within}
use Rattle.lr1_base.proofs.lookahead.Laws.{has-none, has-union, has-single}
use Rattle.lr1_base.proofs.lookahead.Sets.{within_refl, within_trans}
use Rattle.first.specs.First.{join, first_of, marked_at_end, grown, round, settle, rounds, sets_of_first, first0, unmarked, FIRST, nullable}
use Rattle.first.specs.Rust.{rust_first0}
use Rattle.first.specs.Derives.{Derives, done, step}
use Rattle.first.proofs.Join.{has-join_end, join_cases, join-within, end_marked-append, end_marked-cons, end_marked-terminal, first_of-nonterminal, nullable-nil, TerminalBelow}
use Rattle.first.proofs.Least.{grown-cases, grown-other, settle-stop, settle_again, Closed, solution, table_small}
use Rattle.first.proofs.Derivations.{derives_trans, derives_before, derives_production}
use Rattle.lr1_base.proofs.laws.Lists.{zero_at}

-- sound: what is in a set comes with a derivation

-- where token k of FIRST of xs comes from
abbrev pub Origin : ℕ → List Production → List Symbol → ℕ → Type 0
Origin e ps xs k = ((k ≡ e) × Derives ps xs []) ⊎ ((k < e) × ((ys : List Symbol) × Derives ps xs (terminal k ∷ ys)))

abbrev pub Sound : ℕ → List Production → List ℕ → Type 0
Sound e ps S = (n k : ℕ) → has (get_or S n 0) k ≡ true → Origin e ps (nonterminal n ∷ []) k

module _ (e : ℕ) (ps : List Production) where
  -- what a derived list gives
  origin_from : (xs ys : List Symbol) (k : ℕ) → Derives ps xs ys → Origin e ps ys k → Origin e ps xs k
  origin_from xs ys k d (inl o) = inl (o.0, derives_trans d o.1)
  origin_from xs ys k d (inr o) = inr (o.0, (o.1.0, derives_trans d o.1.1))

  first_of_sound : (S : List ℕ) → Sound e ps S → (x : Symbol) → TerminalBelow e x → (k : ℕ) → has (first_of S x) k ≡ true → Origin e ps (x ∷ []) k
  unfolding first_of TerminalBelow
  first_of_sound S s (terminal t) h k q =
      let r : k ≡ t = eqb-true k t (sym (has-single t k) ∙ q) in
      inr (omega arith, ([], rw r done))
  first_of_sound S s (nonterminal n) h k q = s n k q

  pub end_marked_sound : (S : List ℕ) → Sound e ps S → (xs : List Symbol) → All (TerminalBelow e) xs → (k : ℕ) → has (marked_at_end e S xs) k ≡ true → Origin e ps xs k
  unfolding marked_at_end All
  end_marked_sound S s [] f k h = inl (eqb-true k e (sym (has-single e k) ∙ h), done)
  end_marked_sound S s (x ∷ xs) f k h =
      let rest = end_marked_sound S s xs f.1 k in
      ⊎_elim
      (λ w. begins w.1 (first_of_sound S s x f.0 k w.0))
      (λ w. origin_from (x ∷ xs) xs k (vanishes (first_of_sound S s x f.0 e w.0)) (rest w.1))
      (join_cases e (first_of S x) (marked_at_end e S xs) k h)
    where
      begins : (k ≡ e → ⊥) → Origin e ps (x ∷ []) k → Origin e ps (x ∷ xs) k
      begins n (inl o) = absurd (n o.0)
      begins n (inr o) = inr (o.0, (o.1.0 ++ xs, derives_before xs o.1.1))

      vanishes : Origin e ps (x ∷ []) e → Derives ps (x ∷ xs) xs
      vanishes (inl o) = derives_before xs o.1
      vanishes (inr o) = absurd (omega (arith, o.0))

  grown_sound : (S : List ℕ) (p : Production) → Memᴰ p ps → All (TerminalBelow e) p.symbols → Sound e ps S → Sound e ps (grown e S p)
  grown_sound S p m f s n k =
      grown-cases e S p n (λ (a : ℕ). has a k ≡ true → Origin e ps (nonterminal n ∷ []) k) (s n k) (λ q h.
      cases (has (get_or S n 0) k) (s n k) (λ o.
      rw q (origin_from (nonterminal p.nonterminal ∷ []) p.symbols k (derives_production p m)
      (end_marked_sound S s p.symbols f k (sym (has-union (get_or S n 0) (marked_at_end e S p.symbols) k ∙ rw o) ∙ h)))))

  round_sound : (S : List ℕ) (qs : List Production) → ((p : Production) → Memᴰ p qs → Memᴰ p ps) → All (λ p. All (TerminalBelow e) p.symbols) qs → Sound e ps S → Sound e ps (round e S qs)
  unfolding round All
  round_sound S [] sub f s = s
  round_sound S (p ∷ qs) sub f s =
      round_sound (grown e S p) qs (λ q m. sub q (Memᴰ.tail m)) f.1 (grown_sound S p (sub p (Memᴰ.head refl)) f.0 s)

  settle_sound : (f : ℕ) (S : List ℕ) → All (λ p. All (TerminalBelow e) p.symbols) ps → Sound e ps S → Sound e ps (settle f e S ps)
  unfolding settle
  settle_sound zero S b s = s
  settle_sound (suc f) S b s =
      cases (same_words (round e S ps) S)
      (λ t. rw (settle-stop (suc f) e S ps t) s)
      (λ t. rw (settle_again f e S ps t) (settle_sound f (round e S ps) b (round_sound S ps (λ p m. m) b s)))

  pub first_sets_sound : All (λ p. All (TerminalBelow e) p.symbols) ps → Sound e ps (sets_of_first e ps)
  unfolding sets_of_first
  first_sets_sound b =
      settle_sound rounds (replicate nonterminal_limit 0) b (λ n k h. clash (has (get_or (replicate nonterminal_limit 0) n 0) k) h (ap (λ (a : ℕ). has a k) (zero_at nonterminal_limit n) ∙ has-none k))

  -- complete: FIRST of what a list derives is within FIRST of the list

  production-within : (S : List ℕ) (us vs : List Symbol) (p : Production) → Within (marked_at_end e S p.symbols) (get_or S p.nonterminal 0)
      → Within (marked_at_end e S (us ++ (p.symbols ++ vs))) (marked_at_end e S (us ++ (nonterminal p.nonterminal ∷ vs)))
  production-within S us vs p h =
      rw (end_marked-append e S us (p.symbols ++ vs), end_marked-append e S p.symbols vs, end_marked-append e S us (nonterminal p.nonterminal ∷ vs), end_marked-cons e S (nonterminal p.nonterminal) vs, first_of-nonterminal S p.nonterminal)
      (join-within e (marked_at_end e S us) (join e (marked_at_end e S p.symbols) (marked_at_end e S vs)) (marked_at_end e S us) (join e (get_or S p.nonterminal 0) (marked_at_end e S vs)) (within_refl (marked_at_end e S us))
      (join-within e (marked_at_end e S p.symbols) (marked_at_end e S vs) (get_or S p.nonterminal 0) (marked_at_end e S vs) h (within_refl (marked_at_end e S vs))))

  pub derives_within : (S : List ℕ) → Closed e S ps → {xs ys : List Symbol} → Derives ps xs ys → Within (marked_at_end e S ys) (marked_at_end e S xs)
  derives_within S c {xs} done = within_refl (marked_at_end e S xs)
  derives_within S c {xs} {ys} (step us vs p m q d) =
      rw q (within_trans (marked_at_end e S ys) (marked_at_end e S (us ++ (p.symbols ++ vs))) (marked_at_end e S (us ++ (nonterminal p.nonterminal ∷ vs)))
      (derives_within S c d) (production-within S us vs p (c p m)))

-- for a table

symbol-below : (T : Table) (x : Symbol) → SymbolFits T x → TerminalBelow T.terminals x
unfolding SymbolFits TerminalBelow
symbol-below T (terminal t) h = h
symbol-below T (nonterminal n) h = tt

pub symbols-below : (T : Table) (xs : List Symbol) → All (SymbolFits T) xs → All (TerminalBelow T.terminals) xs
symbols-below T xs h = All-map (SymbolFits T) (TerminalBelow T.terminals) (symbol-below T) xs h

-- two joined lists from the two sets, and "nullable" of them
pub rust_append : (T : Table) (xs ys : List Symbol) → rust_first0 T (xs ++ ys) ≡ join T.terminals (rust_first0 T xs) (rust_first0 T ys)
unfolding rust_first0
rust_append T xs ys = end_marked-append T.terminals (sets_of_first T.terminals T.productions) xs ys

pub nullable_joined : (T : Table) (xs ys : List Symbol) → nullable T (xs ++ ys) ≡ (nullable T xs && nullable T ys)
unfolding nullable FIRST first0 unmarked rust_first0
nullable_joined T xs ys = ap (λ (a : ℕ). has a T.terminals) (rust_append T xs ys) ∙ has-join_end T.terminals (rust_first0 T xs) (rust_first0 T ys)

module _ (T : Table) (F : TableFits T) where
  pub first_origin : (xs : List Symbol) → All (SymbolFits T) xs → (k : ℕ) → has (rust_first0 T xs) k ≡ true → Origin T.terminals T.productions xs k
  unfolding rust_first0
  first_origin xs f k h =
      end_marked_sound T.terminals T.productions (sets_of_first T.terminals T.productions)
      (first_sets_sound T.terminals T.productions (All-map (ProductionFits T) (λ p. All (TerminalBelow T.terminals) p.symbols) (λ p g. symbols-below T p.symbols g.symbols) T.productions F.productions))
      xs (symbols-below T xs f) k h

  pub first_derived : (xs ys : List Symbol) → Derives T.productions xs ys → Within (rust_first0 T ys) (rust_first0 T xs)
  unfolding rust_first0
  first_derived xs ys d =
      derives_within T.terminals T.productions (sets_of_first T.terminals T.productions) (solution T.terminals T.productions (table_small T F)) d

  first_own : (t : ℕ) → t < T.terminals → (ys : List Symbol) → has (rust_first0 T (terminal t ∷ ys)) t ≡ true
  unfolding rust_first0
  first_own t l ys =
      ap (λ (a : ℕ). has a t) (end_marked-terminal T.terminals (sets_of_first T.terminals T.productions) t ys (λ q. omega arith)) ∙ has-single t t ∙ eq-eqb t t refl

  -- a terminal is in FIRST exactly if the list derives one that begins with it
  pub first-terminal : (xs : List Symbol) → All (SymbolFits T) xs → (t : ℕ) → t < T.terminals → (has (rust_first0 T xs) t ≡ true) ↔ ((ys : List Symbol) × Derives T.productions xs (terminal t ∷ ys))
  first-terminal xs f t l = (λ h. begins (first_origin xs f t h), λ d. first_derived xs (terminal t ∷ d.0) d.1 t (first_own t l d.0))
    where
      begins : Origin T.terminals T.productions xs t → (ys : List Symbol) × Derives T.productions xs (terminal t ∷ ys)
      begins (inl o) = absurd (omega (arith, o.0))
      begins (inr o) = o.1

  -- end is in it exactly if the list derives the empty list
  pub first_end : (xs : List Symbol) → All (SymbolFits T) xs → (has (rust_first0 T xs) T.terminals ≡ true) ↔ Derives T.productions xs []
  unfolding rust_first0
  first_end xs f = (λ h. vanishes (first_origin xs f T.terminals h), λ d. first_derived xs [] d T.terminals (nullable-nil T.terminals (sets_of_first T.terminals T.productions)))
    where
      vanishes : Origin T.terminals T.productions xs T.terminals → Derives T.productions xs []
      vanishes (inl o) = o.1
      vanishes (inr o) = absurd (omega (arith, o.0))

  pub first-nullable : (xs : List Symbol) → All (SymbolFits T) xs → (nullable T xs ≡ true) ↔ Derives T.productions xs []
  unfolding nullable FIRST first0 unmarked rust_first0
  first-nullable xs f = first_end xs f

  -- no other token is in it
  pub first-only : (xs : List Symbol) → All (SymbolFits T) xs → (k : ℕ) → T.terminals < k → has (rust_first0 T xs) k ≡ false
  first-only xs f k l = cases (has (rust_first0 T xs) k) (λ h. outside (first_origin xs f k h)) (λ h. h)
    where
      outside : Origin T.terminals T.productions xs k → has (rust_first0 T xs) k ≡ false
      outside (inl o) = absurd (omega (arith, o.0))
      outside (inr o) = absurd (omega (arith, o.0))

-- a nonterminal without productions has the empty set

module _ (e n : ℕ) where
  round-none : (S : List ℕ) (ps : List Production) → ((p : Production) → Memᴰ p ps → p.nonterminal ≡ n → ⊥) → get_or (round e S ps) n 0 ≡ get_or S n 0
  unfolding round
  round-none S [] h = refl
  round-none S (p ∷ ps) h = round-none (grown e S p) ps (λ q m. h q (Memᴰ.tail m)) ∙ grown-other e S p n (λ q. h p (Memᴰ.head refl) (sym q))

  settle-none : (f : ℕ) (S : List ℕ) (ps : List Production) → ((p : Production) → Memᴰ p ps → p.nonterminal ≡ n → ⊥) → get_or (settle f e S ps) n 0 ≡ get_or S n 0
  unfolding settle
  settle-none zero S ps h = refl
  settle-none (suc f) S ps h =
      cases (same_words (round e S ps) S)
      (λ t. ap (λ (l : List ℕ). get_or l n 0) (settle-stop (suc f) e S ps t))
      (λ t. ap (λ (l : List ℕ). get_or l n 0) (settle_again f e S ps t) ∙ settle-none f (round e S ps) ps h ∙ round-none S ps h)

  pub first-none : (ps : List Production) → ((p : Production) → Memᴰ p ps → p.nonterminal ≡ n → ⊥) → get_or (sets_of_first e ps) n 0 ≡ 0
  unfolding sets_of_first
  first-none ps h = settle-none rounds (replicate nonterminal_limit 0) ps h ∙ zero_at nonterminal_limit n
