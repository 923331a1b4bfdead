-- In an accepted table a nonterminal's list is its productions, ascending: a chain ascends, and an ascending list is known by its members.
use mathlib.Core.Path.{◌≡◌, refl, sym, ap, ◌∙◌}
use mathlib.Core.Bool.{Bool, true, false}
use mathlib.Core.List.{List, [], ◌∷◌, map}
use mathlib.Core.Logic.{⊎_elim}
use Prim.Native.Nat.{ℕ, zero, suc, ◌+◌, ◌-◌, ◌≤◌, ◌<◌}
use native.Mathlib.Omega.{arith}
use lib.ListN.{length, get_or}
use lib.Dec.{eqb}
use borrow.Author.Tests.{eqb-true, eqb-false, eq-eqb, ne_eqb}
use Rattle.lr1_base.specs.repr.Lists.{up_from, below, mem, keep}
use Rattle.lr1_base.specs.repr.Meaning.{production_at}
use Rattle.lr1_base.proofs.repr.Lists.{cases, clash, mem-nil, mem_no, mem-yes, mem-cons_here, mem-cons_there, keep-nil, keep-yes, keep_no}
use Rattle.table.specs.Checked.{Accepted}
use Rattle.table.specs.Words.{word_at, records, nonterminals, production_area, Area, production_records, names, chain_by, chain}
use Rattle.table.specs.Decoded.{production_chain, productions_of, meaning}
use Rattle.table.specs.Refusals.{check_of}
use Rattle.table.proofs.Chains.{named, by_way}
use Rattle.table.proofs.Accepted.{accepts}
use Rattle.table.proofs.Decoding.{many_nonterminals, nonterminal_at, owned}
use Rattle.table_rewrite.specs.spelling.Spelled.{owns, Ordered}

-- strictly ascending, from lo on
unfoldable pub Rising : ℕ → List ℕ → Type 0
Rising lo [] = Unit {0}
Rising lo (x ∷ xs) = (lo ≤ x) × Rising (suc x) xs

pub rising_wider : (lo hi : ℕ) (xs : List ℕ) → lo ≤ hi → Rising hi xs → Rising lo xs
unfolding Rising
rising_wider lo hi [] h R = tt
rising_wider lo hi (x ∷ xs) h R = (omega (arith, R.0), R.1)

pub rising_from : (lo p : ℕ) (xs : List ℕ) → Rising lo xs → mem p xs ≡ true → lo ≤ p
unfolding Rising
rising_from lo p [] R m = clash (mem p []) m (mem-nil p)
rising_from lo p (x ∷ xs) R m =
    cases (eqb p x)
    (λ q. let z = eqb-true p x q in omega (arith, R.0))
    (λ q. let l = rising_from (suc x) p xs R.1 (sym (mem_no p x xs q) ∙ m) in omega (arith, R.0))

-- what an ascending list is, by its members
pub rising_is : (g : ℕ → Bool) (k lo : ℕ) (xs : List ℕ) → Rising lo xs → ((p : ℕ) → mem p xs ≡ true → p < lo + k) → ((p : ℕ) → lo ≤ p → p < lo + k → mem p xs ≡ g p)
    → xs ≡ keep g (up_from lo k)
unfolding Rising up_from
rising_is g zero lo [] R few is = sym (keep-nil g)
rising_is g zero lo (x ∷ xs) R few is = let a = few x (mem-cons_here x xs) in absurd (omega (arith, R.0))
rising_is g (suc k) lo [] R few is =
    rising_is g k (suc lo) [] tt (λ p m. clash (mem p []) m (mem-nil p)) (λ p a b. is p (omega arith) (omega arith))
    ∙ sym (keep_no g lo (up_from (suc lo) k) (sym (is lo (omega arith) (omega arith)) ∙ mem-nil lo))
rising_is g (suc k) lo (x ∷ xs) R few is =
    cases (eqb lo x)
    (λ q.
    let z = eqb-true lo x q in
    let yes : g lo ≡ true = sym (is lo (omega arith) (omega arith)) ∙ mem-yes lo x xs q in
    ap (λ (y : ℕ). y ∷ xs) (sym z)
    ∙ ap (λ (l : List ℕ). lo ∷ l)
    (rising_is g k (suc lo) xs (rw (← z) at R.1)
    (λ p m. let l = few p (mem-cons_there p x xs m) in omega arith)
    (λ p a b. sym (mem_no p x xs (ne_eqb p x (λ w. omega arith))) ∙ is p (omega arith) (omega arith)))
    ∙ sym (keep-yes g lo (up_from (suc lo) k) yes))
    (λ q.
    let ne = eqb-false lo x q in
    let later : suc lo ≤ x = omega (arith, R.0) in
    let absent : mem lo (x ∷ xs) ≡ false =
    mem_no lo x xs q ∙ cases (mem lo xs) (λ m. let l = rising_from (suc x) lo xs R.1 m in absurd (omega arith)) (λ m. m) in
    rising_is g k (suc lo) (x ∷ xs) (later, R.1)
    (λ p m. let l = few p m in omega arith)
    (λ p a b. is p (omega arith) (omega arith))
    ∙ sym (keep_no g lo (up_from (suc lo) k) (sym (is lo (omega arith) (omega arith)) ∙ absent)))

-- a chain ascends
module _ (t : List ℕ) (a : Area) where
  nothing : (r x : ℕ) → chain_by zero t a r x ≡ []
  unfolding chain_by
  nothing r x = refl

  pub by_rising : (f r x lo : ℕ) → ((y : ℕ) → names a r y ≡ true → lo ≤ y) → Rising lo (chain_by f t a r x)
  unfolding Rising
  by_rising zero r x lo h = rw (nothing r x) tt
  by_rising (suc f) r x lo h =
      ⊎_elim
      (λ e. rw e tt)
      (λ w. rw w.2 (h x w.1, by_rising f x (word_at t x 0) (suc x) (λ y n. (named a x y n).later)))
      (by_way f t a r x)

  pub chain_rising : (r x : ℕ) → Rising a.from (chain t a r x)
  unfolding chain
  chain_rising r x = by_rising (records t) r x a.from (λ y n. (named a r y n).inside)

less_rising : (o lo : ℕ) (xs : List ℕ) → o ≤ lo → Rising lo xs → Rising (lo - o) (map (λ r. r - o) xs)
unfolding Rising
less_rising o lo [] h R = tt
less_rising o lo (x ∷ xs) h R =
    let l = R.0 in
    let e : suc x - o ≡ suc (x - o) = omega arith in
    (omega arith, rw e at (less_rising o (suc x) xs (omega arith) R.1))

pub productions_rising : (t : List ℕ) (n : ℕ) → Rising 0 (productions_of t n)
unfolding productions_of production_chain production_records
productions_rising t n =
    let e : production_area t - production_area t ≡ 0 = omega arith in
    rw e at (less_rising (production_area t) (production_area t) (production_chain t n) (omega arith) (chain_rising t (production_records t) (1 + n) (word_at t (1 + n) 0)))

-- a nonterminal's list is its productions, ascending
pub meaning_ordered : (t : List ℕ) → check_of t ≡ Accepted → Ordered (meaning t)
unfolding below owns
meaning_ordered t e = record {
  lists = λ n h.
      let A = accepts t e in
      let h' : n < nonterminals t = rw (many_nonterminals t) at h in
      let list = get_or (meaning t).nonterminals n [] in
      let R : Rising 0 (get_or (meaning t).nonterminals n []) = rw (nonterminal_at t n h') (productions_rising t n) in
      rising_is (owns (meaning t) n) (length (meaning t).productions) 0 (get_or (meaning t).nonterminals n []) R
      (λ p m. let w = ((owned t A n p h).0 m).0 in omega arith)
      (λ p a b.
      cases (mem p (get_or (meaning t).nonterminals n []))
      (λ m. m ∙ sym (eq-eqb (production_at (meaning t) p).nonterminal n ((owned t A n p h).0 m).1))
      (λ m. m ∙ sym (ne_eqb (production_at (meaning t) p).nonterminal n
      (λ z. clash (mem p (get_or (meaning t).nonterminals n [])) ((owned t A n p h).1 (omega arith, z)) m))));
}
