-- The set of the terminals that a state shifts: one place more (`shift_none` to `shifted-more`), and by the places it is the one of specs/state_conflicts/Clashes
-- (`shifted_is`).
use Rattle.std.proofs.Common.{◌≡◌, ℕ, suc, ◌+◌, ◌*◌, ◌/◌, ◌%◌, ◌<◌, ◌≤◌, Bool, true, false, not, ◌&&◌, ◌||◌, eqb, ltb, List, [], ◌∷◌, get_or, take, drop, sym, refl, ap, ◌∙◌, add-one, arith, get_or-take, ltb-false, ltb-true, le-ltb, lt-ltb, eq-eqb, ne_eqb, eqb-true}
use mathlib.Core.Bool.{and-false, or-false}
use borrow.Author.Tests.{eqb-false, not-true}
use Rattle.lr1_base.specs.repr.Sizes.{index_limit}
use Rattle.lr1_base.specs.repr.Lists.{up_from, below, some?}
use Rattle.lr1_base.specs.repr.Meaning.{Symbol, nonterminal, terminal, Production, Item, Table, production_at, SymbolFits, All}
use Rattle.lr1_base.specs.repr.Listed.{listed}
use Rattle.lr1_base.specs.repr.Packed.{symbol_words, production_in}
use Rattle.lr1_base.proofs.repr.Lists.{cases, clash, below_last}
use Rattle.lr1_base.proofs.repr.Tests.{some?-nil, some?-cons, some?-append, some?-below, some?-below_witness}
use Rattle.lr1_base.specs.lookahead.Tokens.{has}
use Rattle.lr1_base.proofs.lookahead.Laws.{has-none}
use Rattle.lr1_states.specs.canonical.Canonical.{Set, Moved}
use Rattle.lr1_states.specs.canonical.States.{places, tokens, from, moved, nothing?, shifts}
use Rattle.lr1_states.proofs.canonical.Rounds.{Sized}
use Rattle.lr1_states.proofs.canonical.Closure.{Describes, item, item_code_lem, tokens_at, tokens_index, tokens-item, has-inside, some-token, behind_fit}
use Rattle.lr1_states.proofs.canonical.Goto.{moved_sized, moved_exact, nothing-empty, nothing-some}
use Rattle.lr1_base.specs.item.Cursor.{symbol_code, cursor_code, code_in}
use Rattle.lr1_states.specs.closure.Grammar.{OfTable}
use Rattle.lr1_states.specs.closure.Fed.{Flat}
use Rattle.lr1_states.proofs.closure.Grammar.{production_at_lem}
use Rattle.lr1_states.proofs.closure.Rest.{front_sized}
use Rattle.lr1_tables.specs.state_conflicts.Clashes.{Shifted}
use Rattle.lr1_tables.specs.state_conflicts.Clashed.{shifts_at, ShiftedIn}
use Rattle.lr1_base.proofs.laws.Bools.{agree, and-true}

-- one place more, one law for each way through the code

module _ (g : List ℕ) (s x t : ℕ) where
  nothing-more : (h b : Bool) → b ≡ false → h ≡ (h || b)
  nothing-more h b z = rw z (sym (or-false h))

  pub shift_none : s ≡ 0 → (h : Bool) → h ≡ (h || (ltb t 63 && shifts_at g s x t))
  unfolding shifts_at
  shift_none z h = nothing-more h (ltb t 63 && shifts_at g s x t) (rw (eq-eqb s 0 z) (and-false (ltb t 63)))

  code_none : drop (x % index_limit) (listed (symbol_words g (x / index_limit))) ≡ [] → 95 ≡ code_in g (x / index_limit) (x % index_limit)
  unfolding code_in cursor_code
  code_none q = rw q refl

  code_here : (X : Symbol) (β : List Symbol) → drop (x % index_limit) (listed (symbol_words g (x / index_limit))) ≡ X ∷ β → symbol_code X ≡ code_in g (x / index_limit) (x % index_limit)
  unfolding code_in cursor_code
  code_here X β q = rw q refl

  pub shift_nonterminal : (n : ℕ) (β : List Symbol) → drop (x % index_limit) (listed (symbol_words g (x / index_limit))) ≡ nonterminal n ∷ β → n < 32 → (h : Bool) → h ≡ (h || (ltb t 63 && shifts_at g s x t))
  unfolding shifts_at symbol_code
  shift_nonterminal n β q l h =
      let e : n ≡ code_in g (x / index_limit) (x % index_limit) = code_here (nonterminal n) β q in
      let z : shifts_at g s x t ≡ false = rw (← e, ne_eqb n (32 + t) (λ q. omega arith)) (and-false (not (eqb s 0))) in
      nothing-more h (ltb t 63 && shifts_at g s x t) (rw z (and-false (ltb t 63)))

  pub shift_end : drop (x % index_limit) (listed (symbol_words g (x / index_limit))) ≡ [] → (h : Bool) → h ≡ (h || (ltb t 63 && shifts_at g s x t))
  unfolding shifts_at
  shift_end q h = nothing-more h (ltb t 63 && shifts_at g s x t) (cases (ltb t 63)
      (λ u.
      let k = ltb-true t 63 u in
      let z : shifts_at g s x t ≡ false = rw (← code_none q, ne_eqb 95 (32 + t) (λ q. omega arith)) (and-false (not (eqb s 0))) in
      rw z (and-false (ltb t 63)))
      (λ u. rw u refl))

  pub shift_terminal : (u : ℕ) (β : List Symbol) → drop (x % index_limit) (listed (symbol_words g (x / index_limit))) ≡ terminal u ∷ β → u < 63 → (s ≡ 0 → ⊥) → (h r : Bool) → r ≡ (h || (ltb t 64 && eqb t u)) → r ≡ (h || (ltb t 63 && shifts_at g s x t))
  unfolding shifts_at symbol_code
  shift_terminal u β w k z h r q =
      let e : 32 + u ≡ code_in g (x / index_limit) (x % index_limit) = code_here (terminal u) β w in
      q ∙ ap (λ (b : Bool). h || b) (cases (eqb t u)
      (λ v.
      let w = eqb-true t u v in
      rw (v, lt-ltb t 64 (omega arith), lt-ltb t 63 (omega arith), ne_eqb s 0 z, ← e, eq-eqb (32 + u) (32 + t) (omega arith)) refl)
      (λ v.
      let w = eqb-false t u v in
      rw (v, ← e, ne_eqb (32 + u) (32 + t) (λ y. w (omega arith)), and-false (ltb t 64), and-false (not (eqb s 0))) (sym (and-false (ltb t 63)))))

pub shifted_start : (g S : List ℕ) → (t : ℕ) → has 0 t ≡ (ltb t 63 && some? (λ x. shifts_at g (get_or S x 0) x t) (below 0))
unfolding below up_from
shifted_start g S t = has-none t ∙ sym (ap (λ (b : Bool). ltb t 63 && b) (some?-nil (λ (x : ℕ). shifts_at g (get_or S x 0) x t)) ∙ and-false (ltb t 63))

pub shifted-more : (g S : List ℕ) (x s sh r : ℕ) → s ≡ get_or S x 0 → ShiftedIn g S x sh → ((t : ℕ) → has r t ≡ (has sh t || (ltb t 63 && shifts_at g s x t))) → ShiftedIn g S (x + 1) r
shifted-more g S x s sh r e f q t =
    let F : ℕ → Bool = λ x. shifts_at g (get_or S x 0) x t in
    let one : some? (λ x. shifts_at g (get_or S x 0) x t) (below (x + 1)) ≡ (some? (λ x. shifts_at g (get_or S x 0) x t) (below x) || shifts_at g (get_or S x 0) x t) =
    ap (some? (λ x. shifts_at g (get_or S x 0) x t)) (ap below (add-one x) ∙ below_last x) ∙ some?-append (λ x. shifts_at g (get_or S x 0) x t) (below x) (x ∷ [])
    ∙ ap (λ (b : Bool). some? (λ x. shifts_at g (get_or S x 0) x t) (below x) || b) (some?-cons (λ x. shifts_at g (get_or S x 0) x t) x [] ∙ rw (some?-nil (λ (x : ℕ). shifts_at g (get_or S x 0) x t)) (or-false (shifts_at g (get_or S x 0) x t))) in
    q t ∙ rw (f t, e, one) (cases (ltb t 63) (λ u. rw u refl) (λ u. rw u refl))

-- and-true at once

module _ (T : Table) (g : List ℕ) (P e : ℕ) (sets : List ℕ) (G : OfTable T g P e sets) where
  code_at : (x : ℕ) → x < index_limit * P → code_in g (x / index_limit) (x % index_limit) ≡ cursor_code (from T x)
  unfolding code_in production_in
  code_at x h = ap (λ (r : Production). cursor_code (drop (x % index_limit) r.symbols)) (sym (production_at_lem T g P e sets G (x / index_limit) (omega arith)))

  fits-from : (x : ℕ) (ys : List Symbol) → from T x ≡ ys → All (SymbolFits T) ys
  unfolding All
  fits-from x [] q = tt
  fits-from x (y ∷ β) q = behind_fit T G.fits (item x) y β q

  -- a cursor's number says its terminal
  code-says : (ys : List Symbol) → All (SymbolFits T) ys → (t : ℕ) → t < 63 → cursor_code ys ≡ 32 + t → (t < T.terminals) × ((β : List Symbol) × (ys ≡ terminal t ∷ β))
  unfolding cursor_code symbol_code SymbolFits All
  code-says [] f t l q = absurd (omega arith)
  code-says (nonterminal n ∷ ys) f t l q = let w = f.0 in absurd (omega (arith, w, G.fits.few_nonterminals))
  code-says (terminal u ∷ ys) f t l q = let z : u ≡ t = omega arith in let w = f.0 in (omega (arith, w), (ys, rw z refl))

  code_of : (t : ℕ) (ys β : List Symbol) → ys ≡ terminal t ∷ β → cursor_code ys ≡ 32 + t
  unfolding cursor_code symbol_code
  code_of t ys β q = rw q refl

  module _ (K : List ℕ) (flat : Flat K) (t : ℕ) (l : t < 63) where
    abbrev S : List ℕ
    S = take (index_limit * P) K

    abbrev Has : Set
    Has i a = has (tokens (take (index_limit * P) K) i) a ≡ true

    sized : Sized (places T) (take (index_limit * P) K)
    sized = front_sized T K P flat G.packed.few G.many

    same : (x : ℕ) → x < index_limit * P → get_or (take (index_limit * P) K) x 0 ≡ get_or K x 0
    same x h = get_or-take (index_limit * P) K x 0 h

    described : Describes (take (index_limit * P) K) Has
    described i a = (λ h. h, λ h. h)

    exact : Describes (moved T (terminal t) (take (index_limit * P) K)) (Moved T (terminal t) Has)
    exact = moved_exact T G.fits Has (terminal t) (take (index_limit * P) K) sized described

    abbrev some-place : Bool
    some-place = some? (λ x. shifts_at g (get_or K x 0) x t) (below (index_limit * P))

    to_place : shifts T (take (index_limit * P) K) t ≡ true → some-place ≡ true
    unfolding shifts shifts_at
    to_place h =
        let w = nothing-some (moved T (terminal t) (take (index_limit * P) K)) (Moved T (terminal t) Has) (moved_sized T (terminal t) (take (index_limit * P) K) sized).fits exact (not-true (nothing? (moved T (terminal t) (take (index_limit * P) K))) h) in
        let i : Item = w.2.0 in
        let a : ℕ = w.1 in
        let u = tokens_index (take (index_limit * P) K) i a w.2.5 in
        let x : ℕ = index_limit * i.production + i.index in
        let there : has (get_or (take (index_limit * P) K) x 0) a ≡ true = rw (tokens_at (take (index_limit * P) K) i u) at w.2.5 in
        let m : x < index_limit * P = omega (arith, has-inside (take (index_limit * P) K) x a there, sized.long, G.many) in
        let some : get_or K x 0 ≡ 0 → ⊥ = λ q. clash (has (get_or (take (index_limit * P) K) x 0) a) there (ap (λ (s : ℕ). has s a) (same x m ∙ q) ∙ has-none a) in
        let begins : from T x ≡ terminal t ∷ w.2.1 = ap (λ (j : Item). drop j.index (production_at T j.production).symbols) (item_code_lem i u) ∙ w.2.4 in
        let code : code_in g (x / index_limit) (x % index_limit) ≡ 32 + t = code_at x m ∙ code_of t (from T x) w.2.1 begins in
        some?-below (λ x. shifts_at g (get_or K x 0) x t) (index_limit * P) x m (rw (ne_eqb (get_or K x 0) 0 some, eq-eqb (code_in g (x / index_limit) (x % index_limit)) (32 + t) code) refl)

    -- what a place says
    place-says : (x : ℕ) → x < index_limit * P → shifts_at g (get_or K x 0) x t ≡ true → (get_or K x 0 ≡ 0 → ⊥) × ((t < T.terminals) × ((β : List Symbol) × (from T x ≡ terminal t ∷ β)))
    unfolding shifts_at
    place-says x m h =
        let b = and-true (not (eqb (get_or K x 0) 0)) (eqb (code_in g (x / index_limit) (x % index_limit)) (32 + t)) h in (
          eqb-false (get_or K x 0) 0 (not-true (eqb (get_or K x 0) 0) b.0),
          code-says (from T x) (fits-from x (from T x) refl) t l (sym (code_at x m) ∙ eqb-true (code_in g (x / index_limit) (x % index_limit)) (32 + t) b.1),
        )

    from_place : some-place ≡ true → shifts T (take (index_limit * P) K) t ≡ true
    unfolding shifts
    from_place h =
        let w = some?-below_witness (λ x. shifts_at g (get_or K x 0) x t) (index_limit * P) h in
        let x : ℕ = w.0 in
        let says = place-says x w.1 w.2 in
        let v = some-token (get_or (take (index_limit * P) K) x 0) (sized.fits x) (λ q. says.0 (sym (same x w.1) ∙ q)) in
        cases (nothing? (moved T (terminal t) (take (index_limit * P) K)))
        (λ n. absurd (nothing-empty (moved T (terminal t) (take (index_limit * P) K)) (Moved T (terminal t) Has) exact n
        (record { production = x / index_limit; index = suc (x % index_limit) }) v.0
        (item x, says.1.1.0, refl, refl, says.1.1.1, rw (tokens-item (take (index_limit * P) K) x) v.1)))
        (λ n. rw n refl)

    pub place-shifts : some-place ≡ shifts T (take (index_limit * P) K) t
    place-shifts = agree some-place (shifts T (take (index_limit * P) K) t) from_place to_place

    pub no_place : T.terminals ≤ t → some-place ≡ false
    no_place h = cases some-place (λ u. let w = some?-below_witness (λ x. shifts_at g (get_or K x 0) x t) (index_limit * P) u in absurd (omega (arith, (place-says w.0 w.1 w.2).1.0))) (λ u. u)

  pub shifted_is : (K : List ℕ) → Flat K → (n sh : ℕ) → n ≡ index_limit * P → ShiftedIn g K n sh → Shifted T (take (index_limit * P) K) sh
  shifted_is K flat n sh z f t =
      f t ∙ rw z (cases (ltb t 63)
      (λ u.
      let l = ltb-true t 63 u in
      rw u (cases (ltb t T.terminals)
      (λ v. rw v (place-shifts K flat t l))
      (λ v. rw v (no_place K flat t l (ltb-false t T.terminals v)))))
      (λ u.
      let k = ltb-false t 63 u in
      rw (u, le-ltb t T.terminals (omega (arith, G.fits.few_terminals))) refl))
