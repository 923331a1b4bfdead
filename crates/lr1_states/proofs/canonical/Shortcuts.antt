-- What allows shortcuts in code: closing adds items at index 0 only, so two gotos are equal exactly if what moved is (`kernel_decides`) and no edge enters state 0
-- (`not_first`); all index-0 items of one nonterminal have the same tokens (`same_ahead`); and whatever way the closure is computed, a list that has the
-- book's items is the closure (`closure_unique`).
use mathlib.Core.Path.{◌≡◌, refl, sym, ap, ◌∙◌}
use mathlib.Core.Bool.{false}
use mathlib.Core.List.{List, [], ◌∷◌}
use mathlib.Core.Logic.{◌↔◌}
use mathlib.Core.Option.{some}
use Prim.Native.Nat.{ℕ, suc, ◌*◌, ◌/◌, ◌%◌, ◌^◌, ◌≤◌, ◌<◌}
use native.Mathlib.Omega.{arith}
use lib.Dec.{eqb, ltb}
use lib.ListN.{length, get_or, get_or-eq_default}
use lib.Seq.{ext_get_or}
use borrow.Author.Tests.{eqb-true, eqb-false, ltb-true, ltb-false}
use Rattle.lr1_base.specs.repr.Sizes.{index_limit}
use Rattle.lr1_base.specs.repr.Meaning.{Symbol, Item, Edge, Table, production_at, All, TableFits}
use Rattle.lr1_base.proofs.repr.Lists.{cases}
use Rattle.lr1_base.proofs.repr.Tests.{every?_fails}
use Rattle.lr1_states.specs.canonical.Canonical.{Set, Closed, given, added}
use Rattle.lr1_states.specs.canonical.States.{places, Move, moves, grown, round, closure, moved_to, moved, goto, start_state, nothing?, built, build, target_of}
use Rattle.lr1_states.proofs.canonical.Rounds.{Sized, grown-other, settle-keeps}
use Rattle.lr1_states.proofs.canonical.Closure.{Describes, moves_out, All-by-member, closure_sized, closure_exact}
use Rattle.lr1_states.proofs.canonical.Goto.{moved_at, moved_to-zero, length_moved, kernel, kernel_other}
use Rattle.lr1_states.proofs.canonical.Collection.{build_right}
use Rattle.lr1_states.proofs.canonical.Canonical.{same_state}

-- closing leaves the items past index 0 as they are

round-other : (e x : ℕ) (S : List ℕ) (ms : List Move) → All (λ m. x ≡ m.target → ⊥) ms → get_or (round e S ms) x 0 ≡ get_or S x 0
unfolding round All
round-other e x S [] f = refl
round-other e x S (m ∷ ms) f = round-other e x (grown e S m) ms f.1 ∙ grown-other e S m x f.0

pub closure-keeps : (T : Table) (S : List ℕ) (x : ℕ) → (x % index_limit ≡ 0 → ⊥) → get_or (closure T S) x 0 ≡ get_or S x 0
unfolding closure
closure-keeps T S x n =
    settle-keeps (λ (R : List ℕ). get_or R x 0 ≡ get_or S x 0) T.terminals (moves T)
    (λ R q. round-other T.terminals x R (moves T) (All-by-member (λ m. x ≡ m.target → ⊥) (moves T) (λ m i e.
    let w = moves_out T m i in
    let t : x ≡ 17 * w.q = e ∙ ap (λ (m : Move). m.target) w.is in
    n (omega arith))) ∙ q)
    (suc (places T * 2 ^ 64)) S refl

module _ (T : Table) (X : Symbol) (S : List ℕ) where
  pub moved-first : (x : ℕ) → x % index_limit ≡ 0 → get_or (moved T X S) x 0 ≡ 0
  moved-first x h =
      cases (ltb x (places T))
      (λ t. moved_at T X S x (ltb-true x (places T) t) ∙ ap (moved_to T X S (x / index_limit)) h ∙ moved_to-zero T X S (x / index_limit))
      (λ t. let o : length (moved T X S) ≤ x = rw (length_moved T X S) (ltb-false x (places T) t) in get_or-eq_default (moved T X S) 0 o)

pub kernel_decides : (T : Table) (X Y : Symbol) (S R : List ℕ) → (goto T X S ≡ goto T Y R) ↔ (moved T X S ≡ moved T Y R)
unfolding goto
kernel_decides T X Y S R = (
  λ e. ext_get_or 0 (moved T X S) (moved T Y R) (length_moved T X S ∙ sym (length_moved T Y R)) (λ x h.
      cases (eqb (x % index_limit) 0)
      (λ t. let q = eqb-true (x % index_limit) 0 t in moved-first T X S x q ∙ sym (moved-first T Y R x q))
      (λ t.
      let n = eqb-false (x % index_limit) 0 t in
      sym (closure-keeps T (moved T X S) x n) ∙ ap (λ (l : List ℕ). get_or l x 0) e ∙ closure-keeps T (moved T Y R) x n)),
  λ e. ap (closure T) e,
)

goto-not-start : (T : Table) (F : TableFits T) (start : ℕ) (X : Symbol) (S : List ℕ) → nothing? (moved T X S) ≡ false → goto T X S ≡ start_state T start → ⊥
unfolding goto start_state nothing?
goto-not-start T F start X S n e =
    let w = every?_fails (eqb 0) (moved T X S) 0 n in
    let x : ℕ = w.0 in
    let g = eqb-false 0 (get_or (moved T X S) x 0) w.2 in
    cases (eqb (x % index_limit) 0)
    (λ t. g (sym (moved-first T X S x (eqb-true (x % index_limit) 0 t))))
    (λ t.
    let k = eqb-false (x % index_limit) 0 t in
    g (sym (sym (closure-keeps T (moved T X S) x k) ∙ ap (λ (l : List ℕ). get_or l x 0) e ∙ closure-keeps T (kernel T F start) x k
    ∙ kernel_other T F start x (λ q. k (omega (arith, q))))))

-- no edge enters state 0
pub not_first : (T : Table) (F : TableFits T) (start : ℕ) → start < length T.productions → (Rs : List (List ℕ)) (es : List (List Edge)) → build T start ≡ built Rs es
    → (k : ℕ) (X : Symbol) → k < length Rs → target_of X (get_or es k []) ≡ some 0 → ⊥
not_first T F start h Rs es e k X l q =
    let r = build_right T F start h Rs es e in
    let w = r.0.leads k (omega (arith, r.1)) X 0 q in
    goto-not-start T F start X (get_or Rs k []) w.0 (sym w.2 ∙ r.0.found.first)

-- the first items of one nonterminal have the same tokens, where none of them is given
pub same_ahead : (T : Table) (K : Set) → ((i : Item) (a : ℕ) → K i a → i.index ≡ 0 → ⊥) → (i j : Item) (b : ℕ) → i.index ≡ 0 → j.index ≡ 0
    → j.production < length T.productions → (production_at T i.production).nonterminal ≡ (production_at T j.production).nonterminal → Closed T K i b → Closed T K j b
same_ahead T K n i j b z y l o (given k) = absurd (n i b k z)
same_ahead T K n i j b z y l o (added m β c e z' l' o' f) = added m β c e y l (sym o ∙ o') f

-- however it is computed
pub closure_unique : (T : Table) → TableFits T → (K : Set) (S R : List ℕ) → Sized (places T) S → Describes S K → Sized (places T) R → Describes R (Closed T K) → R ≡ closure T S
closure_unique T F K S R z d y c = same_state (places T) R (closure T S) (Closed T K) y (closure_sized T F S z) c (closure_exact T F K S z d)
