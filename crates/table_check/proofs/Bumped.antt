-- How many chains hold each production: the laws of `bump` over the chains one after the other.
use mathlib.Core.Path.{◌≡◌, refl, sym, ap, ◌∙◌}
use mathlib.Core.Bool.{true}
use mathlib.Core.List.{List, [], ◌∷◌, ◌++◌}
use Prim.Native.Nat.{ℕ, suc, ◌+◌, ◌-◌, min, ◌≤◌, ◌<◌}
use native.Mathlib.Numerals.{add-one}
use native.Mathlib.Omega.{arith}
use lib.ListN.{length, get_or, set, replicate, get_or-replicate, length-replicate, length-set}
use lib.Seq.{get_or-set_same, get_or-set_other}
use lib.Dec.{eqb}
use borrow.Author.Tests.{eqb-true, eqb-false}
use Rattle.lr1_base.specs.repr.Lists.{up_from, below, mem, occurrences, joined}
use Rattle.lr1_base.proofs.repr.Lists.{cases, occurrences-nil, occurrences-yes, occurrences_no, mem-cons_here, mem-cons_there, joined_cons}
use Rattle.lr1_base.proofs.repr.Tests.{mem-joined, some?-below_witness}
use Rattle.table.specs.Words.{productions, nonterminals, production_area, production_records}
use Rattle.table.specs.Decoded.{production_chain}
use Rattle.table.proofs.Chains.{chain_member}
use Rattle.table_check.specs.Marks.{Held}
use Rattle.table_check.specs.Known.{bump}

pub bump-append : (at : ℕ) (hs xs ys : List ℕ) → bump at hs (xs ++ ys) ≡ bump at (bump at hs xs) ys
unfolding bump
bump-append at hs [] ys = refl
bump-append at hs (x ∷ xs) ys = bump-append at (set hs (x - at) (min 2 (get_or hs (x - at) 0 + 1))) xs ys

-- each place counts its occurrences, as far as two
bumped : (at : ℕ) (hs rs : List ℕ) (p : ℕ) → p < length hs → get_or hs p 0 ≤ 2 → ((r : ℕ) → mem r rs ≡ true → at ≤ r) → get_or (bump at hs rs) p 0 ≡ min 2 (get_or hs p 0 + occurrences (at + p) rs)
unfolding bump
bumped at hs [] p h l low = let o = occurrences-nil (at + p) in omega arith
bumped at hs (r ∷ rs) p h l low = go (low r (mem-cons_here r rs)) (λ x y. bumped at (set hs (r - at) (min 2 (get_or hs (r - at) 0 + 1))) rs p x y (λ q m. low q (mem-cons_there q r rs m)))
  where
    new : List ℕ
    new = set hs (r - at) (min 2 (get_or hs (r - at) 0 + 1))

    go : at ≤ r → (p < length new → get_or new p 0 ≤ 2 → get_or (bump at new rs) p 0 ≡ min 2 (get_or new p 0 + occurrences (at + p) rs)) → get_or (bump at hs (r ∷ rs)) p 0 ≡ min 2 (get_or hs p 0 + occurrences (at + p) (r ∷ rs))
    go a rest =
        let long : p < length new = simp length-set h in
        cases (eqb (at + p) r)
        (λ e.
        let q : r - at ≡ p = let z = eqb-true (at + p) r e in omega arith in
        let v : get_or new p 0 ≡ min 2 (get_or hs p 0 + 1) = rw q (get_or-set_same hs p (min 2 (get_or hs p 0 + 1)) 0 h) in
        let o = occurrences-yes (at + p) r rs e in
        let w = rest long (omega arith) in
        omega arith)
        (λ e.
        let d = eqb-false (at + p) r e in
        let v : get_or new p 0 ≡ get_or hs p 0 = get_or-set_other hs (r - at) p (min 2 (get_or hs (r - at) 0 + 1)) 0 (λ z. d (omega arith)) in
        let o = occurrences_no (at + p) r rs e in
        let w = rest long (omega arith) in
        omega arith)

-- ---- the nonterminals one by one

-- what is left to hold, from nonterminal n on, gives what the whole gives
unfoldable pub Left : List ℕ → ℕ → ℕ → List ℕ → List ℕ → Type 0
Left t n count hs hs₀ =
    bump (production_area t) hs (joined (production_chain t) (up_from n (count - n))) ≡ bump (production_area t) hs₀ (joined (production_chain t) (below count))

pub left-start : (t : List ℕ) (count : ℕ) (hs : List ℕ) → Left t 0 count hs hs
unfolding Left below
left-start t count hs = let z : count - 0 ≡ count = omega arith in rw z

up_from-step : (n k : ℕ) → up_from n (suc k) ≡ n ∷ up_from (n + 1) k
unfolding up_from
up_from-step n k = ap (λ (m : ℕ). n ∷ up_from m k) (sym (add-one n))

pub left-more : (t : List ℕ) (n count : ℕ) (hs hs₀ hs' : List ℕ) → n < count → hs' ≡ bump (production_area t) hs (production_chain t n) → Left t n count hs hs₀ → Left t (n + 1) count hs' hs₀
unfolding Left
left-more t n count hs hs₀ hs' h e l =
    let z : count - n ≡ suc (count - (n + 1)) = omega arith in
    let s : up_from n (count - n) ≡ n ∷ up_from (n + 1) (count - (n + 1)) = ap (up_from n) z ∙ up_from-step n (count - (n + 1)) in
    let one : joined (production_chain t) (up_from n (count - n)) ≡ production_chain t n ++ joined (production_chain t) (up_from (n + 1) (count - (n + 1))) =
    ap (joined (production_chain t)) s ∙ joined_cons (production_chain t) n (up_from (n + 1) (count - (n + 1))) in
    rw e (sym (bump-append (production_area t) hs (production_chain t n) (joined (production_chain t) (up_from (n + 1) (count - (n + 1)))))
    ∙ ap (bump (production_area t) hs) (sym one) ∙ l)

starts_in : (t : List ℕ) (k r : ℕ) → mem r (joined (production_chain t) (below k)) ≡ true → production_area t ≤ r
unfolding production_chain production_records
starts_in t k r m =
    let w = some?-below_witness (λ n. mem r (production_chain t n)) k (sym (mem-joined (production_chain t) r (below k)) ∙ m) in
    (chain_member t (production_records t) _ _ r w.2).inside

none_left : (t : List ℕ) (n count : ℕ) (hs hs₀ : List ℕ) → count ≤ n → Left t n count hs hs₀ → hs ≡ bump (production_area t) hs₀ (joined (production_chain t) (below count))
unfolding Left up_from bump joined
none_left t n count hs hs₀ h l = let z : count - n ≡ 0 = omega arith in rw z at l

pub left-held : (t : List ℕ) (n count : ℕ) (hs hs₀ : List ℕ) → count ≡ nonterminals t → count ≤ n → productions t ≤ 128 → hs₀ ≡ replicate 128 0 → Left t n count hs hs₀ → Held t hs
left-held t n count hs hs₀ e h few z l p lp =
    let zeroes : get_or hs₀ p 0 ≡ 0 = ap (λ (x : List ℕ). get_or x p 0) z ∙ get_or-replicate 128 p 0 0 (omega arith) in
    let long : length hs₀ ≡ 128 = ap length z ∙ length-replicate {A = ℕ} 128 0 in
    let b = bumped (production_area t) hs₀ (joined (production_chain t) (below count)) p (omega arith) (omega arith) (starts_in t count) in
    let s = ap (λ (x : List ℕ). get_or x p 0) (none_left t n count hs hs₀ h l) in
    let o = ap (λ (k : ℕ). occurrences (production_area t + p) (joined (production_chain t) (below k))) e in
    omega arith
