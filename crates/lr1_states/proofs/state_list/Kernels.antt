-- Kernels: two of one state's size are the same items past index 0 exactly if the sets there are; so a goto is compared before it is closed (`place_kernel`).
use Rattle.std.specs.Prelude.{◌≡◌, ℕ, zero, suc, ◌+◌, ◌%◌, ◌<◌, ◌≤◌, Bool, true, false, ◌&&◌, eqb, List, [], ◌∷◌, map, length, get_or}
use mathlib.Core.Path.{refl, sym, ap, ◌∙◌}
use native.Mathlib.Omega.{arith}
use lib.Seq.{ext_get_or}
use borrow.Author.Tests.{eqb-true, eqb-false, eq-eqb, ne_eqb}
use Rattle.lr1_base.specs.words.Same.{same_words}
use Rattle.lr1_base.proofs.words.Same.{same_words_eq, eq_same_words}
use Rattle.lr1_base.specs.repr.Sizes.{index_limit}
use Rattle.lr1_base.specs.repr.Lists.{up_from, below, keep}
use Rattle.lr1_base.specs.repr.Meaning.{Symbol, Table, TableFits}
use Rattle.lr1_base.proofs.repr.Lists.{cases, clash}
use Rattle.lr1_base.proofs.repr.Tests.{every?_fails}
use Rattle.lr1_states.specs.canonical.States.{places, closure, moved, goto, start_state, nothing?, place}
use Rattle.lr1_states.proofs.canonical.Rounds.{Sized}
use Rattle.lr1_states.proofs.canonical.Closure.{closure_sized}
use Rattle.lr1_states.proofs.canonical.Goto.{moved_sized, start_sized, goto_sized, kernel, kernel_other}
use Rattle.lr1_states.proofs.canonical.Collection.{Each, place_here, place_there}
use Rattle.lr1_states.proofs.canonical.Shortcuts.{closure-keeps, moved-first}
use Rattle.lr1_states.specs.stored_item.Stored.{Entry, held, packed, is_same_kernel, same_entry}
use Rattle.lr1_states.proofs.stored_item.Stored.{kernel_pass, kernel_short, kernel_both, kernel_nil, kernel_long, differs, alike}
use Rattle.lr1_states.proofs.stored_item.Packed.{held_none, held-some}
use Rattle.lr1_states.specs.state_list.Kept.{kernel_place}
use Rattle.lr1_states.specs.state_list.Made.{Made, first, next}
use Rattle.lr1_states.proofs.state_list.Kept.{place-yes, place_no}
use Rattle.lr1_base.proofs.laws.Bools.{agree as same_truth}

-- the sets past index 0 are the same, over a range of places
unfoldable agree : List ℕ → List ℕ → ℕ → ℕ → Bool
agree R M x zero = true
agree R M x (suc m) = elim (eqb (x % index_limit) 0) [ true ↦ agree R M (suc x) m | false ↦ eqb (get_or R x 0) (get_or M x 0) && agree R M (suc x) m ]

agree_pass : (R M : List ℕ) (x m : ℕ) → x % index_limit ≡ 0 → agree R M x (suc m) ≡ agree R M (suc x) m
unfolding agree
agree_pass R M x m z = rw (eq-eqb (x % index_limit) 0 z, agree)

agree_both : (R M : List ℕ) (x m : ℕ) → (x % index_limit ≡ 0 → ⊥) → agree R M x (suc m) ≡ (eqb (get_or R x 0) (get_or M x 0) && agree R M (suc x) m)
unfolding agree
agree_both R M x m z = rw (ne_eqb (x % index_limit) 0 z, agree)

-- a kernel's item that the state lacks, and one of the state's that the kernel lacks
lacks : (R : List ℕ) (x s : ℕ) (ds : List Entry) (y m : ℕ) → x < y → is_same_kernel (held R (up_from y m)) (record { place = x; set = s } ∷ ds) ≡ false
unfolding up_from keep
lacks R x s ds y zero h = kernel_long (record { place = x; set = s }) ds
lacks R x s ds y (suc m) h =
    let more = lacks R x s ds (suc y) m (omega arith) in
    cases (eqb (get_or R y 0) 0)
    (λ t. rw (held_none R y (up_from (suc y) m) (eqb-true (get_or R y 0) 0 t)) more)
    (λ t.
    rw (held-some R y (up_from (suc y) m) (eqb-false (get_or R y 0) 0 t)) (cases (eqb (y % index_limit) 0)
    (λ u. kernel_pass y (get_or R y 0) (held R (up_from (suc y) m)) (record { place = x; set = s } ∷ ds) (eqb-true (y % index_limit) 0 u) ∙ more)
    (λ u. kernel_both y (get_or R y 0) (held R (up_from (suc y) m)) (record { place = x; set = s }) ds (eqb-false (y % index_limit) 0 u)
    ∙ rw (differs y (get_or R y 0) x s (λ w. let q = w.0 in omega arith)) refl)))

spare : (M : List ℕ) (x s : ℕ) (es : List Entry) → (x % index_limit ≡ 0 → ⊥) → (y m : ℕ) → x < y → is_same_kernel (record { place = x; set = s } ∷ es) (held M (up_from y m)) ≡ false
unfolding up_from keep
spare M x s es z y zero h = kernel_short x s es z
spare M x s es z y (suc m) h =
    let more = spare M x s es z (suc y) m (omega arith) in
    cases (eqb (get_or M y 0) 0)
    (λ t. rw (held_none M y (up_from (suc y) m) (eqb-true (get_or M y 0) 0 t)) more)
    (λ t.
    rw (held-some M y (up_from (suc y) m) (eqb-false (get_or M y 0) 0 t)) (kernel_both x s es (record { place = y; set = get_or M y 0 }) (held M (up_from (suc y) m)) z
    ∙ rw (differs x s y (get_or M y 0) (λ w. let q = w.0 in omega arith)) refl))

module _ (R M : List ℕ) (past : (x : ℕ) → x % index_limit ≡ 0 → get_or M x 0 ≡ 0) where
  same_kernel_agree : (x m : ℕ) → is_same_kernel (held R (up_from x m)) (held M (up_from x m)) ≡ agree R M x m
  unfolding up_from keep agree
  same_kernel_agree x zero = kernel_nil
  same_kernel_agree x (suc m) =
      let more = same_kernel_agree (suc x) m in
      cases (eqb (x % index_limit) 0)
      (λ t.
      let z = eqb-true (x % index_limit) 0 t in
      rw (held_none M x (up_from (suc x) m) (past x z), agree_pass R M x m z) (cases (eqb (get_or R x 0) 0)
      (λ u. rw (held_none R x (up_from (suc x) m) (eqb-true (get_or R x 0) 0 u)) more)
      (λ u. rw (held-some R x (up_from (suc x) m) (eqb-false (get_or R x 0) 0 u)) (kernel_pass x (get_or R x 0) (held R (up_from (suc x) m)) (held M (up_from (suc x) m)) z ∙ more))))
      (λ t.
      let z = eqb-false (x % index_limit) 0 t in
      rw (agree_both R M x m z) (cases (eqb (get_or R x 0) 0)
      (λ u.
      let a = eqb-true (get_or R x 0) 0 u in
      rw (held_none R x (up_from (suc x) m) a) (cases (eqb (get_or M x 0) 0)
      (λ v. let b = eqb-true (get_or M x 0) 0 v in rw (held_none M x (up_from (suc x) m) b, eq-eqb (get_or R x 0) (get_or M x 0) (a ∙ sym b)) more)
      (λ v.
      let b = eqb-false (get_or M x 0) 0 v in
      rw (held-some M x (up_from (suc x) m) b, ne_eqb (get_or R x 0) (get_or M x 0) (λ q. b (sym q ∙ a))) (lacks R x (get_or M x 0) (held M (up_from (suc x) m)) (suc x) m (omega arith)))))
      (λ u.
      let a = eqb-false (get_or R x 0) 0 u in
      rw (held-some R x (up_from (suc x) m) a) (cases (eqb (get_or M x 0) 0)
      (λ v.
      let b = eqb-true (get_or M x 0) 0 v in
      rw (held_none M x (up_from (suc x) m) b, ne_eqb (get_or R x 0) (get_or M x 0) (λ q. a (q ∙ b))) (spare M x (get_or R x 0) (held R (up_from (suc x) m)) z (suc x) m (omega arith)))
      (λ v.
      let b = eqb-false (get_or M x 0) 0 v in
      rw (held-some M x (up_from (suc x) m) b) (kernel_both x (get_or R x 0) (held R (up_from (suc x) m)) (record { place = x; set = get_or M x 0 }) (held M (up_from (suc x) m)) z
      ∙ both (eqb (get_or R x 0) (get_or M x 0)) refl more))))))
    where
      both : (b : Bool) → eqb (get_or R x 0) (get_or M x 0) ≡ b → is_same_kernel (held R (up_from (suc x) m)) (held M (up_from (suc x) m)) ≡ agree R M (suc x) m
          → (same_entry (record { place = x; set = get_or R x 0 }) (record { place = x; set = get_or M x 0 }) && is_same_kernel (held R (up_from (suc x) m)) (held M (up_from (suc x) m)))
          ≡ (eqb (get_or R x 0) (get_or M x 0) && agree R M (suc x) m)
      both true q more = rw (alike x (get_or R x 0) x (get_or M x 0) refl (eqb-true (get_or R x 0) (get_or M x 0) q), q, more) refl
      both false q more = rw (differs x (get_or R x 0) x (get_or M x 0) (λ w. eqb-false (get_or R x 0) (get_or M x 0) q w.1), q) refl

agree_out : (R M : List ℕ) (x m : ℕ) → agree R M x m ≡ true → (i : ℕ) → x ≤ i → i < x + m → (i % index_limit ≡ 0 → ⊥) → get_or R i 0 ≡ get_or M i 0
agree_out R M x zero t i l h z = absurd (omega arith)
agree_out R M x (suc m) t i l h z =
    let more : agree R M (suc x) m ≡ true → x < i → get_or R i 0 ≡ get_or M i 0 = λ u k. agree_out R M (suc x) m u i (omega arith) (omega arith) z in
    cases (eqb (x % index_limit) 0)
    (λ u.
    let q = eqb-true (x % index_limit) 0 u in
    more (sym (agree_pass R M x m q) ∙ t) (other q))
    (λ u.
    let n = eqb-false (x % index_limit) 0 u in
    by (eqb (get_or R x 0) (get_or M x 0)) refl (sym (agree_both R M x m n) ∙ t) more)
  where
    other : x % index_limit ≡ 0 → x < i
    other q = cases (eqb x i) (λ v. absurd (z (ap (λ (y : ℕ). y % index_limit) (sym (eqb-true x i v)) ∙ q))) (λ v. let n = eqb-false x i v in omega (arith, n))

    by : (b : Bool) → eqb (get_or R x 0) (get_or M x 0) ≡ b → (eqb (get_or R x 0) (get_or M x 0) && agree R M (suc x) m) ≡ true → (agree R M (suc x) m ≡ true → x < i → get_or R i 0 ≡ get_or M i 0)
        → get_or R i 0 ≡ get_or M i 0
    by false q w more = clash (eqb (get_or R x 0) (get_or M x 0) && agree R M (suc x) m) w (rw q refl)
    by true q w more =
        let v : agree R M (suc x) m ≡ true = rw q at w in
        cases (eqb x i)
        (λ e. let y = eqb-true x i e in rw (← y) (eqb-true (get_or R x 0) (get_or M x 0) q))
        (λ e. let n = eqb-false x i e in more v (omega (arith, n)))

agree_in : (R M : List ℕ) (x m : ℕ) → ((i : ℕ) → x ≤ i → i < x + m → (i % index_limit ≡ 0 → ⊥) → get_or R i 0 ≡ get_or M i 0) → agree R M x m ≡ true
unfolding agree
agree_in R M x zero f = refl
agree_in R M x (suc m) f =
    let more = agree_in R M (suc x) m (λ i l h. f i (omega arith) (omega arith)) in
    cases (eqb (x % index_limit) 0)
    (λ u. agree_pass R M x m (eqb-true (x % index_limit) 0 u) ∙ more)
    (λ u.
    let n = eqb-false (x % index_limit) 0 u in
    agree_both R M x m n ∙ rw (eq-eqb (get_or R x 0) (get_or M x 0) (f x (omega arith) (omega arith) n)) more)

-- of two whole states
module _ (n : ℕ) (R M : List ℕ) (long : length R ≡ n) (size : length M ≡ n) (past : (x : ℕ) → x % index_limit ≡ 0 → get_or M x 0 ≡ 0) where
  kernel_out : is_same_kernel (packed R) (packed M) ≡ true → (i : ℕ) → i < n → (i % index_limit ≡ 0 → ⊥) → get_or R i 0 ≡ get_or M i 0
  unfolding packed below
  kernel_out t i h z = agree_out R M 0 n (sym (same_kernel_agree R M past 0 n) ∙ (rw (long, size) at t)) i (omega arith) (omega arith) z

  kernel_in : ((i : ℕ) → i < n → (i % index_limit ≡ 0 → ⊥) → get_or R i 0 ≡ get_or M i 0) → is_same_kernel (packed R) (packed M) ≡ true
  unfolding packed below
  kernel_in f = rw (long, size) (same_kernel_agree R M past 0 n ∙ agree_in R M 0 n (λ i l h z. f i (omega arith) z))

-- what moved over a symbol: nothing at index 0, and something
pub record Kernel (T : Table) (M : List ℕ) : Type 0 where
  pub sized : Sized (places T) M
  pub past : (x : ℕ) → x % index_limit ≡ 0 → get_or M x 0 ≡ 0
  pub some : nothing? M ≡ false

-- compared before it is closed
abbrev pub Told : Table → List ℕ → Type 0
Told T R = (M : List ℕ) → Kernel T M → is_same_kernel (packed R) (packed M) ≡ same_words (closure T M) R

-- not nothing
nothing-not : (T : Table) (M : List ℕ) → Kernel T M → ((x : ℕ) → x < places T → (x % index_limit ≡ 0 → ⊥) → get_or M x 0 ≡ 0) → ⊥
unfolding nothing?
nothing-not T M L f =
    let w = every?_fails (eqb 0) M 0 L.some in
    let g = eqb-false 0 (get_or M w.0 0) w.2 in
    cases (eqb (w.0 % index_limit) 0)
    (λ u. g (sym (L.past w.0 (eqb-true (w.0 % index_limit) 0 u))))
    (λ u. g (sym (f w.0 (rw L.sized.long at w.1) (eqb-false (w.0 % index_limit) 0 u))))

module _ (T : Table) (F : TableFits T) where
  pub told-goto : (N : List ℕ) → Kernel T N → Told T (closure T N)
  told-goto N K M L =
      let n : ℕ = places T in
      let size : length (closure T N) ≡ places T = (closure_sized T F N K.sized).long in
      same_truth (is_same_kernel (packed (closure T N)) (packed M)) (same_words (closure T M) (closure T N))
      (λ t.
      let f = kernel_out (places T) (closure T N) M size L.sized.long L.past t in
      eq_same_words (closure T M) (closure T N) (ap (closure T) (ext_get_or 0 M N (L.sized.long ∙ sym K.sized.long) (λ x h.
      let h' : x < places T = rw L.sized.long at h in
      cases (eqb (x % index_limit) 0)
      (λ u. let q = eqb-true (x % index_limit) 0 u in L.past x q ∙ sym (K.past x q))
      (λ u. let z = eqb-false (x % index_limit) 0 u in sym (f x h' z) ∙ closure-keeps T N x z)))))
      (λ t.
      let e = same_words_eq (closure T M) (closure T N) t in
      kernel_in (places T) (closure T N) M size L.sized.long L.past (λ i h z. ap (λ (l : List ℕ). get_or l i 0) (sym e) ∙ closure-keeps T M i z))

  pub told-start : (start : ℕ) → start < length T.productions → Told T (start_state T start)
  unfolding start_state
  told-start start h M L =
      let size : length (start_state T start) ≡ places T = (start_sized T F start h).long in
      same_truth (is_same_kernel (packed (start_state T start)) (packed M)) (same_words (closure T M) (start_state T start))
      (λ t.
      let f = kernel_out (places T) (start_state T start) M size L.sized.long L.past t in
      absurd (nothing-not T M L (λ x l z. sym (f x l z) ∙ zero_past x z)))
      (λ t.
      let e = same_words_eq (closure T M) (start_state T start) t in
      absurd (nothing-not T M L (λ x l z. sym (closure-keeps T M x z) ∙ ap (λ (l : List ℕ). get_or l x 0) e ∙ zero_past x z)))
    where
      zero_past : (x : ℕ) → (x % index_limit ≡ 0 → ⊥) → get_or (start_state T start) x 0 ≡ 0
      zero_past x z = closure-keeps T (kernel T F start) x z ∙ kernel_other T F start x (λ q. z (omega (arith, q)))

  pub made_sized : (start : ℕ) → start < length T.productions → {S : List ℕ} → Made T start S → Sized (places T) S
  made_sized start h first = start_sized T F start h
  made_sized start h (next {S = S} X m n) = goto_sized T F X S (made_sized start h m)

  pub moved_kernel : (start : ℕ) → start < length T.productions → {S : List ℕ} → Made T start S → (X : Symbol) → nothing? (moved T X S) ≡ false → Kernel T (moved T X S)
  moved_kernel start h {S = S} m X n = record { sized = moved_sized T X S (made_sized start h m); past = moved-first T X S; some = n }

  pub made_told : (start : ℕ) → start < length T.productions → {S : List ℕ} → Made T start S → Told T S
  unfolding goto
  made_told start h first = told-start start h
  made_told start h (next {S = S} X m n) = told-goto (moved T X S) (moved_kernel start h m X n)

-- the number of a goto
pub place_kernel : (T : Table) (M : List ℕ) → Kernel T M → (Rs : List (List ℕ)) → Each (Told T) Rs → kernel_place (packed M) (map packed Rs) ≡ place (closure T M) Rs
unfolding kernel_place place
place_kernel T M L [] f = refl
place_kernel T M L (R ∷ Rs) f =
    let more = place_kernel T M L Rs (λ t h. f (suc t) (omega arith)) in
    let here : is_same_kernel (packed R) (packed M) ≡ same_words (closure T M) R = f 0 (omega arith) M L in
    cases (same_words (closure T M) R)
    (λ t. place-yes (packed M) (packed R) (map packed Rs) (here ∙ t) ∙ sym (place_here (closure T M) R Rs t))
    (λ t. place_no (packed M) (packed R) (map packed Rs) (here ∙ t) ∙ ap suc more ∙ sym (place_there (closure T M) R Rs t))
