-- The rounds of specs/canonical/States, as those of FIRST (proofs/Least of first): a round makes sets larger and never smaller, so they come to rest before the fuel of
-- `closure` does; at rest every move's tokens are in its target.
use mathlib.Core.Path.{◌≡◌, refl, sym, ap, ◌∙◌, subst}
use mathlib.Core.Bool.{true, false}
use mathlib.Core.List.{List, [], ◌∷◌, ◌++◌, Memᴰ}
use Prim.Native.Nat.{ℕ, zero, suc, ◌+◌, ◌-◌, ◌*◌, ◌^◌, ◌≤◌, ◌<◌}
use native.Mathlib.Omega.{arith}
use lib.Dec.{eqb}
use lib.ListN.{length, get_or, length-set}
use lib.Seq.{get_or-set_same, get_or-set_other}
use borrow.Author.Tests.{eqb-true, eqb-false, eq-eqb, ne_eqb}
use Rattle.lr1_base.proofs.repr.Tests.{All_member}
use Rattle.lr1_base.proofs.lookahead.Growing.{Inside, inside_refl, inside_trans, inside_antisym, total, total_inside, total_few}
use Rattle.lr1_base.proofs.words.Same.{same_words_eq}
use Rattle.lr1_base.specs.words.Same.{same_words}
use Rattle.lr1_base.specs.repr.Meaning.{All}
use Rattle.lr1_base.proofs.repr.Lists.{cases}
use Rattle.lr1_base.specs.lookahead.Tokens.{union, Within}
use Rattle.lr1_base.proofs.lookahead.Laws.{union_lt}
use Rattle.lr1_base.proofs.lookahead.Sets.{within_refl, within-union-left, within_same_union}
use Rattle.first.specs.First.{join}
use Rattle.first.proofs.Join.{join_lt}
use Rattle.lr1_states.specs.canonical.States.{Move, gives_of, gives, grown, round, settle}

-- N sets, each a word of 64 bits
pub record Sized (N : ℕ) (S : List ℕ) : Type 0 where
  pub long : length S ≡ N
  pub fits : (x : ℕ) → get_or S x 0 < 2 ^ 64

pub record MoveFits (N : ℕ) (m : Move) : Type 0 where
  pub target : m.target < N
  pub front : m.front < 2 ^ 64

-- one move

pub length-grown : (e : ℕ) (S : List ℕ) (m : Move) → length (grown e S m) ≡ length S
unfolding grown
length-grown e S m = simp length-set

pub grown_at : (e : ℕ) (S : List ℕ) (m : Move) → m.target < length S → get_or (grown e S m) m.target 0 ≡ union (get_or S m.target 0) (gives e S m)
unfolding grown
grown_at e S m h = get_or-set_same S m.target (union (get_or S m.target 0) (gives e S m)) 0 h

pub grown-other : (e : ℕ) (S : List ℕ) (m : Move) (x : ℕ) → (x ≡ m.target → ⊥) → get_or (grown e S m) x 0 ≡ get_or S x 0
unfolding grown
grown-other e S m x h = get_or-set_other S m.target x (union (get_or S m.target 0) (gives e S m)) 0 h

-- a grown set is as before, or the target's with what the move gives
pub grown-cases {ℓ} : (e : ℕ) (S : List ℕ) (m : Move) → m.target < length S → (x : ℕ) (P : ℕ → Type ℓ) → P (get_or S x 0)
    → (x ≡ m.target → P (union (get_or S x 0) (gives e S m))) → P (get_or (grown e S m) x 0)
grown-cases e S m h x P old new =
    cases (eqb x m.target)
    (λ t.
    let q = eqb-true x m.target t in
    subst P (sym (ap (λ (y : ℕ). get_or (grown e S m) y 0) q ∙ grown_at e S m h ∙ ap (λ (y : ℕ). union (get_or S y 0) (gives e S m)) (sym q))) (new q))
    (λ t. subst P (sym (grown-other e S m x (eqb-false x m.target t))) old)

pub grown-inside : (e : ℕ) (S : List ℕ) (m : Move) → m.target < length S → Inside S (grown e S m)
grown-inside e S m h x =
    grown-cases e S m h x (Within (get_or S x 0)) (within_refl (get_or S x 0)) (λ q. within-union-left (get_or S x 0) (gives e S m))

pub gives_none : (e front s : ℕ) → s ≡ 0 → gives_of e front s ≡ 0
unfolding gives_of
gives_none e front s h = rw (eq-eqb s 0 h, gives_of)

pub gives-some : (e front s : ℕ) → (s ≡ 0 → ⊥) → gives_of e front s ≡ join e front s
unfolding gives_of
gives-some e front s h = rw (ne_eqb s 0 h, gives_of)

gives_of_lt : (e front s : ℕ) → front < 2 ^ 64 → s < 2 ^ 64 → gives_of e front s < 2 ^ 64
gives_of_lt e front s f h =
    cases (eqb s 0)
    (λ t. rw (gives_none e front s (eqb-true s 0 t)) (omega arith))
    (λ t. rw (gives-some e front s (eqb-false s 0 t)) (join_lt e 64 front s f h))

gives_lt : (e N : ℕ) (S : List ℕ) (m : Move) → Sized N S → MoveFits N m → gives e S m < 2 ^ 64
gives_lt e N S m z k = gives_of_lt e m.front (get_or S m.source 0) k.front (z.fits m.source)

pub grown_sized : (e N : ℕ) (S : List ℕ) (m : Move) → Sized N S → MoveFits N m → Sized N (grown e S m)
grown_sized e N S m z k = record {
  long = length-grown e S m ∙ z.long;
  fits = λ x. grown-cases e S m (rw z.long k.target) x (λ (a : ℕ). a < 2 ^ 64) (z.fits x) (λ q.
      union_lt 64 (get_or S x 0) (gives e S m) (z.fits x) (gives_lt e N S m z k));
}

-- a round

pub round-cons : (e : ℕ) (S : List ℕ) (m : Move) (ms : List Move) → round e S (m ∷ ms) ≡ round e (grown e S m) ms
unfolding round
round-cons e S m ms = refl

pub round-append : (e : ℕ) (S : List ℕ) (ms ns : List Move) → round e S (ms ++ ns) ≡ round e (round e S ms) ns
unfolding round
round-append e S [] ns = refl
round-append e S (m ∷ ms) ns = round-append e (grown e S m) ms ns

pub round_sized : (e N : ℕ) (S : List ℕ) (ms : List Move) → Sized N S → All (MoveFits N) ms → Sized N (round e S ms)
unfolding round All
round_sized e N S [] z k = z
round_sized e N S (m ∷ ms) z k = round_sized e N (grown e S m) ms (grown_sized e N S m z k.0) k.1

pub round-inside : (e N : ℕ) (S : List ℕ) (ms : List Move) → Sized N S → All (MoveFits N) ms → Inside S (round e S ms)
unfolding round All
round-inside e N S [] z k = inside_refl S
round-inside e N S (m ∷ ms) z k =
    inside_trans S (grown e S m) (round e (grown e S m) ms) (grown-inside e S m (rw z.long k.0.target))
    (round-inside e N (grown e S m) ms (grown_sized e N S m z k.0) k.1)

-- round after round

pub settle-stop : (f e : ℕ) (S : List ℕ) (ms : List Move) → same_words (round e S ms) S ≡ true → settle f e S ms ≡ S
unfolding settle
settle-stop zero e S ms h = refl
settle-stop (suc f) e S ms h = rw (h, settle)

pub settle_again : (f e : ℕ) (S : List ℕ) (ms : List Move) → same_words (round e S ms) S ≡ false → settle (suc f) e S ms ≡ settle f e (round e S ms) ms
unfolding settle
settle_again f e S ms h = rw (h, settle)

-- what every round keeps holds at the end
pub settle-keeps {ℓ} : (P : List ℕ → Type ℓ) (e : ℕ) (ms : List Move) → ((S : List ℕ) → P S → P (round e S ms)) → (f : ℕ) (S : List ℕ) → P S → P (settle f e S ms)
unfolding settle
settle-keeps P e ms next zero S p = p
settle-keeps P e ms next (suc f) S p =
    cases (same_words (round e S ms) S)
    (λ t. subst P (sym (settle-stop (suc f) e S ms t)) p)
    (λ t. subst P (sym (settle_again f e S ms t)) (settle-keeps P e ms next f (round e S ms) (next S p)))

module _ (e N : ℕ) (ms : List Move) (k : All (MoveFits N) ms) where
  total_lt : (S : List ℕ) → Sized N S → total S < suc (N * 2 ^ 64)
  total_lt S z = let h : total S + length S ≤ length S * 2 ^ 64 = total_few (2 ^ 64) S z.fits in omega (arith, rw z.long at h)

  pub round_less : (S : List ℕ) → Sized N S → same_words (round e S ms) S ≡ false → suc (N * 2 ^ 64) - total (round e S ms) < suc (N * 2 ^ 64) - total S
  round_less S z h =
      let y = round_sized e N S ms z k in
      omega (arith, total_inside S (round e S ms) (z.long ∙ sym y.long) (round-inside e N S ms z k) h, total_lt (round e S ms) y)

  pub settle_fixed : (f : ℕ) (S : List ℕ) → Sized N S → suc (N * 2 ^ 64) - total S ≤ f → round e (settle f e S ms) ms ≡ settle f e S ms
  settle_fixed zero S z h = absurd (omega (arith, total_lt S z))
  settle_fixed (suc f) S z h =
      cases (same_words (round e S ms) S)
      (λ t. rw (settle-stop (suc f) e S ms t) (same_words_eq (round e S ms) S t))
      (λ t. rw (settle_again f e S ms t) (settle_fixed f (round e S ms) (round_sized e N S ms z k) (omega (arith, round_less S z t))))

  settle-enough : (f g : ℕ) (S : List ℕ) → Sized N S → suc (N * 2 ^ 64) - total S ≤ f → suc (N * 2 ^ 64) - total S ≤ g → settle f e S ms ≡ settle g e S ms
  settle-enough zero g S z h l = absurd (omega (arith, total_lt S z))
  settle-enough (suc f) zero S z h l = absurd (omega (arith, total_lt S z))
  settle-enough (suc f) (suc g) S z h l =
      cases (same_words (round e S ms) S)
      (λ t. settle-stop (suc f) e S ms t ∙ sym (settle-stop (suc g) e S ms t))
      (λ t.
      settle_again f e S ms t
      ∙ settle-enough f g (round e S ms) (round_sized e N S ms z k) (omega (arith, round_less S z t)) (omega (arith, round_less S z t))
      ∙ sym (settle_again g e S ms t))

  -- from any sets on the way the same is reached
  pub loop_more : (S : List ℕ) → Sized N S → same_words (round e S ms) S ≡ false → settle (suc (N * 2 ^ 64)) e (round e S ms) ms ≡ settle (suc (N * 2 ^ 64)) e S ms
  loop_more S z h =
      let l = round_less S z h in
      let g : ℕ = suc (N * 2 ^ 64) - total S in
      settle-enough (suc (N * 2 ^ 64)) g (round e S ms) (round_sized e N S ms z k) (omega arith) (omega arith)
      ∙ sym (settle_again g e S ms h)
      ∙ settle-enough (suc g) (suc (N * 2 ^ 64)) S z (omega arith) (omega arith)

  -- the fuel never cuts
  pub settled : (S : List ℕ) → Sized N S → round e (settle (suc (N * 2 ^ 64)) e S ms) ms ≡ settle (suc (N * 2 ^ 64)) e S ms
  settled S z = settle_fixed (suc (N * 2 ^ 64)) S z (omega arith)

  pub settle_sized : (f : ℕ) (S : List ℕ) → Sized N S → Sized N (settle f e S ms)
  settle_sized f S z = settle-keeps (Sized N) e ms (λ R y. round_sized e N R ms y k) f S z

  pub settle-inside : (f : ℕ) (S : List ℕ) → Sized N S → Inside S (settle f e S ms)
  settle-inside f S z =
      (settle-keeps (λ (R : List ℕ). Sized N R × Inside S R) e ms
      (λ R y. (round_sized e N R ms y.0 k, inside_trans S R (round e R ms) y.1 (round-inside e N R ms y.0 k))) f S (z, inside_refl S)).1

-- at rest

fixed_closed : (e N : ℕ) (S : List ℕ) (ms : List Move) → Sized N S → All (MoveFits N) ms → round e S ms ≡ S → All (λ m. Within (gives e S m) (get_or S m.target 0)) ms
unfolding All
fixed_closed e N S [] z k h = tt
fixed_closed e N S (m ∷ ms) z k h =
    let l : m.target < length S = rw z.long k.0.target in
    let y = grown_sized e N S m z k.0 in
    let g : grown e S m ≡ S = inside_antisym (grown e S m) S (length-grown e S m)
    (subst (Inside (grown e S m)) (sym (round-cons e S m ms) ∙ h) (round-inside e N (grown e S m) ms y k.1))
    (grown-inside e S m l) in
    let at : union (get_or S m.target 0) (gives e S m) ≡ get_or S m.target 0 = sym (grown_at e S m l) ∙ ap (λ (R : List ℕ). get_or R m.target 0) g in (
      within_same_union (get_or S m.target 0) (gives e S m) at,
      fixed_closed e N S ms z k.1 (ap (λ (R : List ℕ). round e R ms) (sym g) ∙ sym (round-cons e S m ms) ∙ h),
    )

pub rest-closed : (e N : ℕ) (ms : List Move) → All (MoveFits N) ms → (S : List ℕ) → Sized N S → (m : Move) → Memᴰ m ms
    → Within (gives e (settle (suc (N * 2 ^ 64)) e S ms) m) (get_or (settle (suc (N * 2 ^ 64)) e S ms) m.target 0)
rest-closed e N ms k S z m i =
    let R : List ℕ = settle (suc (N * 2 ^ 64)) e S ms in
    All_member (λ m. Within (gives e R m) (get_or R m.target 0))
    (fixed_closed e N R ms (settle_sized e N ms k (suc (N * 2 ^ 64)) S z) k (settled e N ms k S z)) i
