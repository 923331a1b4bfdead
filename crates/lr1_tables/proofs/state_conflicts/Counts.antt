-- Laws of the conflicts by numbers (specs/state_conflicts/Clashed): one production more, how many they are, and they are the state's (`clashes_in_lem`).
use Rattle.std.proofs.Common.{◌≡◌, ℕ, zero, suc, ◌+◌, ◌-◌, ◌*◌, ◌<◌, ◌≤◌, true, not, ltb, List, [], ◌∷◌, ◌++◌, map, length, get_or, take, sym, refl, ap, ◌∙◌, add-one, arith, length-append, ltb-true}
use mathlib.Core.Bool.{and-false}
use Rattle.lr1_base.specs.repr.Sizes.{index_limit}
use Rattle.lr1_base.specs.repr.Lists.{up_from, below, mem, joined}
use Rattle.lr1_base.specs.repr.Meaning.{Table}
use Rattle.lr1_base.proofs.repr.Lists.{cases, clash, length_mapped, mem-up_from, mem_below, mem-cons_here, mem-cons_there, joined_nil, joined_cons, up_from_more, up_from_end}
use Rattle.std.specs.List.{range_with_len, sum_by}
use Rattle.std.proofs.lemmas.List.Sums.{sum_by-cons}
use Rattle.lr1_base.specs.lookahead.Tokens.{meet, members}
use Rattle.lr1_base.proofs.lookahead.Members.{members_few}
use Rattle.lr1_states.specs.canonical.States.{reduces, clashes_of, clashes}
use Rattle.lr1_states.specs.closure.Grammar.{OfTable}
use Rattle.lr1_tables.specs.state_conflicts.Clashes.{shift_clash, reduce_clash, Shifted, clashes_with}
use Rattle.lr1_tables.proofs.state_conflicts.Clashes.{clashes_with_lem}
use Rattle.lr1_tables.specs.state_conflicts.Reductions.{ReducedAs}
use Rattle.lr1_tables.specs.state_conflicts.Clashed.{pairs_in, clashes_in}

pub pairs-more : (r : List ℕ) (p q n : ℕ) → q < n → pairs_in r p (up_from q (n - q)) ≡ map (reduce_clash p q) (members (meet (get_or r p 0) (get_or r q 0))) ++ pairs_in r p (up_from (q + 1) (n - (q + 1)))
unfolding pairs_in joined
pairs-more r p q n h = ap (pairs_in r p) (up_from_more q n h)

pub pairs_end : (r : List ℕ) (p q n : ℕ) → n ≤ q → pairs_in r p (up_from q (n - q)) ≡ []
unfolding pairs_in joined
pairs_end r p q n h = ap (pairs_in r p) (up_from_end q n h)

pub joined_more : {B : Type 0} (f : ℕ → List B) (p n : ℕ) → p < n → joined f (up_from p (n - p)) ≡ f p ++ joined f (up_from (p + 1) (n - (p + 1)))
joined_more f p n h = ap (joined f) (up_from_more p n h) ∙ joined_cons f p (up_from (p + 1) (n - (p + 1)))

pub joined_end : {B : Type 0} (f : ℕ → List B) (p n : ℕ) → n ≤ p → joined f (up_from p (n - p)) ≡ []
joined_end f p n h = ap (joined f) (up_from_end p n h) ∙ joined_nil f

pub joined_start : {B : Type 0} (f : ℕ → List B) (n : ℕ) → joined f (up_from 0 (n - 0)) ≡ joined f (below n)
unfolding below
joined_start f n = let z : n - 0 ≡ n = omega arith in rw z refl

-- counting

pub pair_sum : (r : List ℕ) (p a n : ℕ) → sum_by (λ q. length (members (meet (get_or r p 0) (get_or r q 0)))) (range_with_len a n) ≡ length (pairs_in r p (up_from a n))
unfolding pairs_in joined up_from
pair_sum r p a zero = refl
pair_sum r p a (suc n) =
    let more : sum_by (λ q. length (members (meet (get_or r p 0) (get_or r q 0)))) (range_with_len (suc a) n) ≡ length (pairs_in r p (up_from (suc a) n)) = pair_sum r p (suc a) n in
    let l = length-append (map (reduce_clash p a) (members (meet (get_or r p 0) (get_or r a 0)))) (pairs_in r p (up_from (suc a) n)) in
    let b = length_mapped (reduce_clash p a) (members (meet (get_or r p 0) (get_or r a 0))) in
    rw (add-one a, sum_by-cons (λ q. length (members (meet (get_or r p 0) (get_or r q 0)))) a (range_with_len (suc a) n)) (omega arith)

pub pairs_few : (r : List ℕ) (p a n : ℕ) → length (pairs_in r p (up_from a n)) ≤ 64 * n
unfolding pairs_in joined up_from
pairs_few r p a zero = omega arith
pairs_few r p a (suc n) =
    let more : length (pairs_in r p (up_from (suc a) n)) ≤ 64 * n = pairs_few r p (suc a) n in
    let l = length-append (map (reduce_clash p a) (members (meet (get_or r p 0) (get_or r a 0)))) (pairs_in r p (up_from (suc a) n)) in
    let b = length_mapped (reduce_clash p a) (members (meet (get_or r p 0) (get_or r a 0))) in
    let k = members_few (meet (get_or r p 0) (get_or r a 0)) in
    omega arith

pub clashes_are : (r : List ℕ) (sh n p : ℕ) → length (clashes_in r sh n p) ≡ length (members (meet (get_or r p 0) sh)) + length (pairs_in r p (up_from (p + 1) (n - (p + 1))))
unfolding clashes_in
clashes_are r sh n p =
    let l = length-append (map (shift_clash p) (members (meet (get_or r p 0) sh))) (pairs_in r p (up_from (p + 1) (n - (p + 1)))) in
    let b = length_mapped (shift_clash p) (members (meet (get_or r p 0) sh)) in
    omega arith

pub joined_sum : {A : Type 0} (f : ℕ → List A) (a m : ℕ) → sum_by (λ p. length (f p)) (range_with_len a m) ≡ length (joined f (up_from a m))
unfolding up_from
joined_sum f a zero = ap length (sym (joined_nil f))
joined_sum f a (suc m) =
    let more : sum_by (λ p. length (f p)) (range_with_len (suc a) m) ≡ length (joined f (up_from (suc a) m)) = joined_sum f (suc a) m in
    let j = ap length (joined_cons f a (up_from (suc a) m)) ∙ length-append (f a) (joined f (up_from (suc a) m)) in
    rw (add-one a, sum_by-cons (λ p. length (f p)) a (range_with_len (suc a) m)) (omega arith)

pub joined_few : {A : Type 0} (f : ℕ → List A) (top : ℕ) (xs : List ℕ) → ((p : ℕ) → length (f p) ≤ top) → length (joined f xs) ≤ length xs * top
joined_few f top [] h = rw (joined_nil f) (omega arith)
joined_few f top (x ∷ xs) h =
    let more = joined_few f top xs h in
    let j = ap length (joined_cons f x xs) ∙ length-append (f x) (joined f xs) in
    let k = h x in
    let e : suc (length xs) * top ≡ length xs * top + top = omega arith in
    omega arith

pub clashes_few : (r : List ℕ) (sh n p : ℕ) → n ≤ 128 → length (clashes_in r sh n p) ≤ 8256
clashes_few r sh n p h = omega (arith, clashes_are r sh n p, members_few (meet (get_or r p 0) sh), pairs_few r p (p + 1) (n - (p + 1)))

-- they are the state's

pub joined_agree : {B : Type 0} (f g : ℕ → List B) (xs : List ℕ) → ((x : ℕ) → mem x xs ≡ true → f x ≡ g x) → joined f xs ≡ joined g xs
joined_agree f g [] h = joined_nil f ∙ sym (joined_nil g)
joined_agree f g (x ∷ xs) h =
    joined_cons f x xs ∙ rw (h x (mem-cons_here x xs), joined_agree f g xs (λ y m. h y (mem-cons_there y x xs m))) (sym (joined_cons g x xs))

mem_high : (q p n : ℕ) → p < n → mem q (up_from (p + 1) (n - (p + 1))) ≡ true → q < n
mem_high q p n h m =
    let e = mem-up_from q (p + 1) (n - (p + 1)) in
    cases (ltb q (p + 1 + (n - (p + 1))))
    (λ t. omega (arith, ltb-true q (p + 1 + (n - (p + 1))) t))
    (λ t. clash (mem q (up_from (p + 1) (n - (p + 1)))) m (e ∙ rw t (and-false (not (ltb q (p + 1))))))

module _ (T : Table) (g : List ℕ) (P e : ℕ) (sets : List ℕ) (G : OfTable T g P e sets) (K r : List ℕ) (sh : ℕ) (is : ReducedAs T P K r P) (w : Shifted T (take (index_limit * P) K) sh) where
  pairs_are : (p : ℕ) → p < P → pairs_in r p (up_from (p + 1) (P - (p + 1)))
      ≡ joined (λ q. map (reduce_clash p q) (members (meet (reduces T (take (index_limit * P) K) p) (reduces T (take (index_limit * P) K) q)))) (up_from (p + 1) (P - (p + 1)))
  unfolding pairs_in
  pairs_are p h = joined_agree (λ q. map (reduce_clash p q) (members (meet (get_or r p 0) (get_or r q 0))))
      (λ q. map (reduce_clash p q) (members (meet (reduces T (take (index_limit * P) K) p) (reduces T (take (index_limit * P) K) q)))) (up_from (p + 1) (P - (p + 1))) (λ q m.
      rw (is p h, is q (mem_high q p P h m)) refl)

  one_is : (p : ℕ) → p < P → clashes_in r sh P p ≡ clashes_of T (take (index_limit * P) K) p
  unfolding clashes_in clashes_with
  one_is p h = rw (pairs_are p h, is p h, add-one p, G.many) refl ∙ clashes_with_lem T (take (index_limit * P) K) sh w G.fits.few_terminals p

  pub clashes_in_lem : joined (clashes_in r sh P) (below P) ≡ clashes T (take (index_limit * P) K)
  unfolding clashes
  clashes_in_lem = joined_agree (clashes_in r sh P) (clashes_of T (take (index_limit * P) K)) (below P) (λ p m. one_is p (ltb-true p P (sym (mem_below p P) ∙ m))) ∙ ap (λ (n : ℕ). joined (clashes_of T (take (index_limit * P) K)) (below n)) G.many
