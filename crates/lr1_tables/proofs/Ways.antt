-- The ways through `build_of` (specs/Outcome), and refusal 18's test as the code makes it.
use mathlib.Core.Path.{◌≡◌, refl, sym, ap, ◌∙◌}
use mathlib.Core.Bool.{Bool, true, false}
use mathlib.Core.List.{List, [], ◌∷◌, ◌++◌, map}
use Prim.Native.Nat.{ℕ, suc, ◌/◌, ◌≤◌, ◌<◌}
use native.Mathlib.Omega.{arith}
use lib.Dec.{eqb}
use lib.ListN.{length, drop}
use borrow.Author.Tests.{eqb-true, eqb-false, ne_eqb, lt-ltb, le-ltb}
use Rattle.lr1_base.specs.repr.Meaning.{Item, Edge, Table, state_at}
use Rattle.lr1_base.specs.repr.Reply.{Reply, refused}
use Rattle.lr1_base.proofs.repr.Lists.{cases}
use Rattle.lr1_base.specs.words.Lent.{zeroed}
use Rattle.lr1_base.proofs.words.Lent.{zeroed_lent}
use Rattle.table.specs.Checked.{Accepted, Refused as NotAccepted}
use Rattle.table.specs.Words.{loose_records}
use Rattle.table.specs.Decoded.{item_at, edge_at, meaning, items_from, edges_from}
use Rattle.table.specs.Refusals.{check_of}
use Rattle.table.specs.Index.{ItemIndex, EdgeIndex}
use Rattle.table.proofs.Accepted.{accepts}
use Rattle.table.proofs.Chains.{chain_end}
use Rattle.table.proofs.Indexes.{item-read, edge_read_lem}
use Rattle.lr1_states.specs.canonical.Outcome.{outcome}
use Rattle.lr1_tables.specs.declared.Built.{Built}
use Rattle.lr1_tables.specs.Outcome.{Left, build_scratch, start_is_fit, grammar_alone, built_of, built_in, build_of}

-- 18

empty {ℓ} : {A : Type ℓ} (xs : List A) → xs ≡ [] → eqb (length xs) 0 ≡ true
empty xs e = rw e refl

some {ℓ} : {A : Type ℓ} (xs ys : List A) (y : A) → xs ≡ y ∷ ys → eqb (length xs) 0 ≡ false
some xs ys y e = rw e (ne_eqb (suc (length ys)) 0 (λ z. omega arith))

module _ (t : List ℕ) (accepted : check_of t ≡ Accepted) where
  -- a chain is empty exactly if its head is 0
  pub no_items : (x : ℕ) (is : List Item) → items_from t x ≡ is → ItemIndex t x → eqb x 0 ≡ eqb (length is) 0
  unfolding items_from
  no_items x is e I =
      cases (eqb x 0)
      (λ q.
      let z : items_from t x ≡ [] = ap (items_from t) (eqb-true x 0 q) ∙ ap (map (item_at t)) (chain_end t (loose_records t) 0) in
      q ∙ sym (empty is (sym e ∙ z)))
      (λ q. q ∙ sym (some is _ _ (sym e ∙ (item-read t (accepts t accepted) x _ _ _ (eqb-false x 0 q) I refl refl refl).list)))

  pub no_edges : (x : ℕ) (ds : List Edge) → edges_from t x ≡ ds → EdgeIndex t x → eqb x 0 ≡ eqb (length ds) 0
  unfolding edges_from
  no_edges x ds e I =
      cases (eqb x 0)
      (λ q.
      let z : edges_from t x ≡ [] = ap (edges_from t) (eqb-true x 0 q) ∙ ap (map (edge_at t)) (chain_end t (loose_records t) 0) in
      q ∙ sym (empty ds (sym e ∙ z)))
      (λ q. q ∙ sym (some ds _ _ (sym e ∙ (edge_read_lem t (accepts t accepted) x _ _ _ _ (eqb-false x 0 q) I refl refl refl refl).list)))

module _ (T : Table) where
  pub alone_states : (n : ℕ) → n ≡ length T.states → (n ≡ 1 → ⊥) → false ≡ grammar_alone T
  unfolding grammar_alone
  alone_states n e ne = rw (← e, ne_eqb n 1 ne) refl

  module _ (n x : ℕ) (e : n ≡ length T.states) (one : n ≡ 1) (i : eqb x 0 ≡ eqb (length (state_at T 0).items) 0) where
    pub alone_items : (x ≡ 0 → ⊥) → false ≡ grammar_alone T
    unfolding grammar_alone
    alone_items ne = rw (← e, one, ← i, ne_eqb x 0 ne) refl

    pub alone_edges : x ≡ 0 → (y : ℕ) → eqb y 0 ≡ eqb (length (state_at T 0).edges) 0 → eqb y 0 ≡ grammar_alone T
    unfolding grammar_alone
    alone_edges z y d = let i' : eqb (length (state_at T 0).items) 0 ≡ true = sym i ∙ rw z refl in rw (← e, one, i', ← d) refl

  pub start-inside : (start : ℕ) → start < length T.productions → (b : Bool) → b ≡ grammar_alone T → b ≡ start_is_fit T start
  unfolding start_is_fit
  start-inside start h b e = rw (lt-ltb start (length T.productions) h) e

  pub start_outside : (start : ℕ) → length T.productions ≤ start → false ≡ start_is_fit T start
  unfolding start_is_fit
  start_outside start h = rw (le-ltb start (length T.productions) h) refl

  -- 11, 18, what is found

  module _ (start : ℕ) (scratch out conflicts : List ℕ) where
    pub in_short : length scratch < build_scratch → record { answer = refused 11 0; scratch = scratch; out = out; conflicts = conflicts } ≡ built_in T start scratch out conflicts
    unfolding built_in
    in_short h = rw (built_in, lt-ltb (length scratch) build_scratch h) refl

    module _ (long : build_scratch ≤ length scratch) (scratch' : List ℕ) where
      pub in_unfit : start_is_fit T start ≡ false → scratch' ≡ zeroed build_scratch scratch
          → record { answer = refused 18 0; scratch = scratch'; out = out; conflicts = conflicts } ≡ built_in T start scratch out conflicts
      unfolding built_in built_of
      in_unfit f z = rw (built_in, le-ltb (length scratch) build_scratch long, f, z) refl

      pub in_found : start_is_fit T start ≡ true → (front : List ℕ) → length front ≡ build_scratch → scratch' ≡ zeroed build_scratch (front ++ drop build_scratch scratch)
          → (r : Reply Built) (out' conflicts' : List ℕ)
          → ((S : List ℕ) → record { answer = r; scratch = zeroed build_scratch S; out = out'; conflicts = conflicts' }
          ≡ built_of T S out conflicts (outcome T start (length out / 4) (length conflicts)))
          → record { answer = r; scratch = scratch'; out = out'; conflicts = conflicts' } ≡ built_in T start scratch out conflicts
      unfolding built_in
      in_found f front l z r out' conflicts' is =
          let q : scratch' ≡ zeroed build_scratch scratch = z ∙ zeroed_lent build_scratch build_scratch front scratch l (omega arith) in
          rw (built_in, le-ltb (length scratch) build_scratch long, f, q) (is scratch)

-- 1 to 8

module _ (t : List ℕ) (start : ℕ) (scratch out conflicts : List ℕ) where
  pub build-refused : (n r : ℕ) → check_of t ≡ NotAccepted n r → record { answer = refused n r; scratch = scratch; out = out; conflicts = conflicts } ≡ build_of t start scratch out conflicts
  unfolding build_of
  build-refused n r e = rw (e, build_of) refl

  pub build_checked : check_of t ≡ Accepted → (l : Left) → l ≡ built_in (meaning t) start scratch out conflicts → l ≡ build_of t start scratch out conflicts
  unfolding build_of
  build_checked e l q = rw (e, build_of) q
