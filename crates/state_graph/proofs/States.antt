-- Laws of the sets of states of specs/States: what each operation has, the states in order, the least and the others.
use mathlib.Core.Path.{◌≡◌, sym, ap, ◌∙◌}
use mathlib.Core.Bool.{Bool, true, false, ◌&&◌, ◌||◌, and-false, or-false}
use mathlib.Core.List.{List, [], ◌∷◌, ◌++◌, map}
use Prim.Native.Nat.{ℕ, zero, suc, ◌+◌, ◌-◌, ◌*◌, ◌/◌, ◌%◌, ◌^◌, ◌≤◌, ◌<◌}
use native.Mathlib.Omega.{arith}
use lib.Bits.{bit_and, bit_or}
use lib.Dec.{eqb, ltb}
use lib.ListN.{length, get_or, length-append}
use borrow.Author.Tests.{eqb-true, eqb-false, eq-eqb, ne_eqb, ltb-true, ltb-false, lt-ltb, le-ltb}
use Rattle.lr1_base.specs.repr.Lists.{up_from, below, mem, keep}
use Rattle.lr1_base.proofs.repr.Lists.{cases, clash, length-below, length-up_from, get_d_up_from, mem-keep, mem_below, keep-nil, keep-yes, keep_no, keep_append, keep_agree, keep-none, length-keep, length_mapped}
use Rattle.lr1_base.specs.lookahead.Tokens.{has, single, union, members}
use Rattle.lr1_base.proofs.lookahead.Laws.{has-none, has-below, has-union, has-single}
use Rattle.lr1_base.proofs.lookahead.Members.{members-none, members_step}
use Rattle.lr1_base.proofs.lookahead.Words.{shifted, contained}
use Rattle.state_graph.specs.States.{has_state, states_in}

-- which word holds a state

pub has_low : (l h s : ℕ) → s < 64 → has_state l h s ≡ has l s
unfolding has_state
has_low l h s i = rw (lt-ltb s 64 i, has_state)

pub has_high : (l h s : ℕ) → 64 ≤ s → has_state l h s ≡ has h (s - 64)
unfolding has_state
has_high l h s i = rw (le-ltb s 64 i, has_state)

-- what holds of both words holds of the set
by_word : (l h s : ℕ) (b : Bool) → (s < 64 → has l s ≡ b) → (64 ≤ s → has h (s - 64) ≡ b) → has_state l h s ≡ b
by_word l h s b f g =
    cases (ltb s 64)
    (λ e. let i = ltb-true s 64 e in has_low l h s i ∙ f i)
    (λ e. let i = ltb-false s 64 e in has_high l h s i ∙ g i)

pub state_none : (s : ℕ) → has_state 0 0 s ≡ false
state_none s = by_word 0 0 s false (λ _. has-none s) (λ _. has-none (s - 64))

pub state_union : (a b c d s : ℕ) → has_state (union a c) (union b d) s ≡ (has_state a b s || has_state c d s)
state_union a b c d s =
    by_word (union a c) (union b d) s (has_state a b s || has_state c d s)
    (λ i. has-union a c s ∙ rw (has_low a b s i, has_low c d s i))
    (λ i. has-union b d (s - 64) ∙ rw (has_high a b s i, has_high c d s i))

-- the union as the code computes it
pub state_or : (a b c d s : ℕ) → has_state (bit_or a c) (bit_or b d) s ≡ (has_state a b s || has_state c d s)
unfolding union
state_or a b c d s = state_union a b c d s

-- one state put in

pub low_with : (l h t s : ℕ) → t < 64 → has_state (union l (single t)) h s ≡ (has_state l h s || eqb s t)
low_with l h t s i =
    by_word (union l (single t)) h s (has_state l h s || eqb s t)
    (λ j. has-union l (single t) s ∙ rw (has-single t s, has_low l h s j))
    (λ j. rw (has_high l h s j, ne_eqb s t (omega arith)) (sym (or-false (has h (s - 64)))))

pub high_with : (l h t s : ℕ) → t < 64 → has_state l (union h (single t)) s ≡ (has_state l h s || eqb s (64 + t))
high_with l h t s i =
    by_word l (union h (single t)) s (has_state l h s || eqb s (64 + t))
    (λ j. rw (has_low l h s j, ne_eqb s (64 + t) (omega arith)) (sym (or-false (has l s))))
    (λ j. has-union h (single t) (s - 64) ∙ rw (has-single t (s - 64), has_high l h s j) (ap (λ (b : Bool). has h (s - 64) || b) (moved j)))
  where
    moved : 64 ≤ s → eqb (s - 64) t ≡ eqb s (64 + t)
    moved j =
        cases (eqb (s - 64) t)
        (λ e. let q = eqb-true (s - 64) t e in e ∙ sym (eq-eqb s (64 + t) (omega arith)))
        (λ e. let q = eqb-false (s - 64) t e in e ∙ sym (ne_eqb s (64 + t) (λ k. q (omega arith))))

-- a state in range is put in
inside : (s t : ℕ) → t < 128 → eqb s t ≡ (ltb s 128 && eqb s t)
inside s t i = cases (eqb s t) (λ q. let e = eqb-true s t q in rw (q, lt-ltb s 128 (omega arith))) (λ q. rw q (sym (and-false (ltb s 128))))

pub insert_low : (l h t r s : ℕ) → t < 64 → r ≡ 1 * 2 ^ t % 18446744073709551616 → has_state (bit_or l r) h s ≡ (has_state l h s || (ltb s 128 && eqb s t))
unfolding union single
insert_low l h t r s i e = rw (e, shifted t i) (low_with l h t s i ∙ ap (λ (b : Bool). has_state l h s || b) (inside s t (omega arith)))

pub insert_high : (l h t r s : ℕ) → 64 ≤ t → t < 128 → r ≡ 1 * 2 ^ (t - 64) % 18446744073709551616 → has_state l (bit_or h r) s ≡ (has_state l h s || (ltb s 128 && eqb s t))
unfolding union single
insert_high l h t r s i j e =
    let q : 64 + (t - 64) ≡ t = omega arith in
    rw (e, shifted (t - 64) (omega arith))
    (high_with l h (t - 64) s (omega arith) ∙ ap (λ (b : Bool). has_state l h s || b) (ap (eqb s) q ∙ inside s t j))

pub insert-none : (l h t s : ℕ) → 128 ≤ t → has_state l h s ≡ (has_state l h s || (ltb s 128 && eqb s t))
insert-none l h t s i =
    cases (eqb s t)
    (λ q. let e = eqb-true s t q in rw (le-ltb s 128 (omega arith)) (sym (or-false (has_state l h s))))
    (λ q. rw (q, and-false (ltb s 128)) (sym (or-false (has_state l h s))))

-- a state is below 128
pub state_below : (l h s : ℕ) → h < 2 ^ 64 → has_state l h s ≡ true → s < 128
state_below l h s i e =
    cases (ltb s 64)
    (λ b. let k = ltb-true s 64 b in omega arith)
    (λ b. let k = ltb-false s 64 b in let j = has-below h 64 (s - 64) i (sym (has_high l h s k) ∙ e) in omega arith)

pub state_outside : (l h s : ℕ) → h < 2 ^ 64 → 128 ≤ s → has_state l h s ≡ false
state_outside l h s i k = cases (has_state l h s) (λ e. absurd (omega (arith, state_below l h s i e))) (λ e. e)

-- the states in order

pub states-mem : (l h s : ℕ) → mem s (states_in l h) ≡ (ltb s 128 && has_state l h s)
unfolding states_in
states-mem l h s = mem-keep (has_state l h) s (below 128) ∙ rw (mem_below s 128)

pub mem-states : (l h s : ℕ) → s < 128 → mem s (states_in l h) ≡ has_state l h s
mem-states l h s i = states-mem l h s ∙ rw (lt-ltb s 128 i)

-- of words, at every number
pub mem-states-word : (l h s : ℕ) → h < 2 ^ 64 → mem s (states_in l h) ≡ has_state l h s
mem-states-word l h s i =
    states-mem l h s ∙ cases (has_state l h s) (λ e. rw (e, lt-ltb s 128 (state_below l h s i e))) (λ e. rw e (and-false (ltb s 128)))

pub states-below : (l h s : ℕ) → mem s (states_in l h) ≡ true → s < 128
states-below l h s e = cases (ltb s 128) (ltb-true s 128) (λ b. clash (mem s (states_in l h)) e (states-mem l h s ∙ rw b))

pub states-has : (l h s : ℕ) → mem s (states_in l h) ≡ true → has_state l h s ≡ true
states-has l h s e = sym (mem-states l h s (states-below l h s e)) ∙ e

-- no states
pub states-none : states_in 0 0 ≡ []
unfolding states_in
states-none = keep-none (has_state 0 0) (below 128) 0 (λ i j. state_none (get_or (below 128) i 0))

-- one state
pub one_of_range : (t from n : ℕ) → from ≤ t → t < from + n → keep (λ (s : ℕ). eqb s t) (up_from from n) ≡ t ∷ []
unfolding up_from
one_of_range t from zero i j = absurd (omega arith)
one_of_range t from (suc n) i j =
    let rest = one_of_range t (suc from) n in
    cases (eqb from t)
    (λ e.
    let q = eqb-true from t e in
    keep-yes (λ (s : ℕ). eqb s t) from (up_from (suc from) n) e
    ∙ rw (keep-none (λ (s : ℕ). eqb s t) (up_from (suc from) n) 0 (λ k l.
    let b : k < n = rw (length-up_from (suc from) n) at l in
    rw (get_d_up_from (suc from) n k 0 b) (ne_eqb (suc from + k) t (omega arith)))) (ap (λ (s : ℕ). s ∷ []) q))
    (λ e. let q = eqb-false from t e in keep_no (λ (s : ℕ). eqb s t) from (up_from (suc from) n) e ∙ rest (omega arith) (omega arith))

pub states_one : (l h t : ℕ) → t < 128 → ((s : ℕ) → has_state l h s ≡ (ltb s 128 && eqb s t)) → states_in l h ≡ t ∷ []
unfolding states_in below
states_one l h t i f =
    keep_agree (has_state l h) (λ (s : ℕ). eqb s t) (up_from 0 128) 0 (λ k j. f (get_or (up_from 0 128) k 0) ∙ sym (inside (get_or (up_from 0 128) k 0) t i))
    ∙ one_of_range t 0 128 (omega arith) (omega arith)

-- the states of the two words, one after the other

pub range_two : (from a b : ℕ) → up_from from (a + b) ≡ up_from from a ++ up_from (from + a) b
unfolding up_from
range_two from zero b = same from (0 + b) (from + 0) b (omega arith) (omega arith)
  where
    same : (x n y m : ℕ) → x ≡ y → n ≡ m → up_from x n ≡ up_from y m
    same x n y m p q = rw (p, q)
range_two from (suc a) b =
    let p : suc a + b ≡ suc (a + b) = omega arith in
    let q : from + suc a ≡ suc from + a = omega arith in
    rw (p, q) (ap (λ (l : List ℕ). from ∷ l) (range_two (suc from) a b))

range_moved : (t u : ℕ → Bool) (d : ℕ) → ((k : ℕ) → t (d + k) ≡ u k) → (from n : ℕ) → keep t (up_from (d + from) n) ≡ map (λ k. d + k) (keep u (up_from from n))
unfolding up_from
range_moved t u d f from zero = rw (keep-nil t, keep-nil u)
range_moved t u d f from (suc n) =
    let q : suc (d + from) ≡ d + suc from = omega arith in
    let rest = ap (λ (k : ℕ). keep t (up_from k n)) q ∙ range_moved t u d f (suc from) n in
    cases (u from)
    (λ e. rw (keep-yes t (d + from) (up_from (suc (d + from)) n) (f from ∙ e), keep-yes u from (up_from (suc from) n) e) (ap (λ (l : List ℕ). (d + from) ∷ l) rest))
    (λ e. rw (keep_no t (d + from) (up_from (suc (d + from)) n) (f from ∙ e), keep_no u from (up_from (suc from) n) e) rest)

pub states-words : (l h : ℕ) → states_in l h ≡ members l ++ map (λ k. 64 + k) (members h)
unfolding states_in members below
states-words l h =
    ap (keep (has_state l h)) (range_two 0 64 64)
    ∙ keep_append (has_state l h) (up_from 0 64) (up_from 64 64)
    ∙ rw (first, range_moved (has_state l h) (has h) 64 second 0 64)
  where
    first : keep (has_state l h) (up_from 0 64) ≡ keep (has l) (up_from 0 64)
    first = keep_agree (has_state l h) (has l) (up_from 0 64) 0 (λ i j.
        let b : i < 64 = rw (length-up_from 0 64) at j in
        let e : get_or (up_from 0 64) i 0 ≡ i = get_d_up_from 0 64 i 0 b ∙ omega arith in
        rw e (has_low l h i b))

    second : (k : ℕ) → has_state l h (64 + k) ≡ has h k
    second k = has_high l h (64 + k) (omega arith) ∙ ap (has h) (omega arith)

pub states_count : (l h a b : ℕ) → a ≡ length (members l) → b ≡ length (members h) → a + b ≡ length (states_in l h)
states_count l h a b p q =
    rw (states-words l h, length-append (members l) (map (λ k. 64 + k) (members h)), length_mapped (λ k. 64 + k) (members h), p, q)

-- the least state, and the others

pub token_small : (s k : ℕ) (ks : List ℕ) → members s ≡ k ∷ ks → k < 64
token_small s k ks e = (members_step s k ks e).0

pub next_low : (l h k r : ℕ) → members l ≡ k ∷ members r → states_in l h ≡ k ∷ states_in r h
next_low l h k r e = rw (states-words l h, states-words r h, e)

pub next_high : (l h k r : ℕ) → members l ≡ [] → members h ≡ k ∷ members r → states_in l h ≡ (64 + k) ∷ states_in 0 r
next_high l h k r d e = rw (states-words l h, states-words 0 r, d, members-none, e)

pub next-done : (l h : ℕ) → members l ≡ [] → members h ≡ [] → states_in l h ≡ []
next-done l h d e = rw (states-words l h, d, e)

-- membership as the code tests it
pub tested_low : (l h s : ℕ) → s < 64 → eqb (bit_and (l / 2 ^ s) 1) 1 ≡ has_state l h s
tested_low l h s i = contained l s ∙ sym (has_low l h s i)

pub tested_high : (l h s : ℕ) → 64 ≤ s → eqb (bit_and (h / 2 ^ (s - 64)) 1) 1 ≡ has_state l h s
tested_high l h s i = contained h (s - 64) ∙ sym (has_high l h s i)

pub count_few : (s a : ℕ) → a ≡ length (members s) → a ≤ 64
unfolding members
count_few s a e = omega (arith, length-keep (has s) (below 64), length-below 64)
