-- Laws of `join`, FIRST of two joined lists (docs/RULES.md, "FIRST"): what it has, that it is associative with `single e` neutral and grows with both
-- arguments; so `marked_at_end` of joined lists from the two answers, "nullable" asked through one law, and `first1`.
use mathlib.Core.Path.{◌≡◌, refl, sym, ap, ◌∙◌}
use mathlib.Core.Bool.{Bool, true, false, ◌&&◌, ◌||◌, not, and-true, and-false, or-true, or-false}
use mathlib.Core.List.{List, [], ◌∷◌, ◌++◌}
use mathlib.Core.Logic.{◌⊎◌, inl, inr, ⊎_elim}
use Prim.Native.Nat.{ℕ, ◌^◌, ◌<◌}
use lib.Dec.{eqb}
use lib.ListN.{get_or}
use borrow.Author.Tests.{eqb-true, eqb-false, eq-eqb, ne_eqb}
use Rattle.lr1_base.specs.repr.Meaning.{Symbol, nonterminal, terminal, All}
use Rattle.lr1_base.proofs.repr.Lists.{cases, clash}
use Rattle.lr1_base.specs.lookahead.Tokens.{has, single, union, without, Within}
use Rattle.lr1_base.proofs.lookahead.Laws.{has-union, has-without, without_no, has-single, union_lt, without_lt, single_lt}
use Rattle.lr1_base.proofs.lookahead.Sets.{same_set, within_refl}
use Rattle.first.specs.First.{join, first_of, marked_at_end, unmarked, first0, followed, first1}

-- the two ways

pub join_null : (e a b : ℕ) → has a e ≡ true → join e a b ≡ union (without a e) b
unfolding join
join_null e a b h = rw (h, join)

pub join_own : (e a b : ℕ) → has a e ≡ false → join e a b ≡ a
unfolding join
join_own e a b h = rw (h, join)

-- what it has

pub has_join : (e a b k : ℕ) → has (join e a b) k ≡ ((has a k && not (eqb k e)) || (has a e && has b k))
has_join e a b k =
    cases (has a e)
    (λ h. rw (join_null e a b h, h, has-union (without a e) b k, has-without a e k))
    (λ h. rw (join_own e a b h, h) (cases (eqb k e)
    (λ q. rw (q, and-false (has a k)) (ap (has a) (eqb-true k e q) ∙ h))
    (λ q. rw (q, and-true (has a k)) (sym (or-false (has a k))))))

-- end is in it exactly if it is in both
pub has-join_end : (e a b : ℕ) → has (join e a b) e ≡ (has a e && has b e)
has-join_end e a b = has_join e a b e ∙ rw (eq-eqb e e refl, and-false (has a e))

pub has-join-other : (e a b k : ℕ) → (k ≡ e → ⊥) → has (join e a b) k ≡ (has a k || (has a e && has b k))
has-join-other e a b k n = has_join e a b k ∙ rw (ne_eqb k e n, and-true (has a k))

pub join-left : (e a b k : ℕ) → has a k ≡ true → (k ≡ e → ⊥) → has (join e a b) k ≡ true
join-left e a b k h n = has-join-other e a b k n ∙ rw h

pub join_right : (e a b k : ℕ) → has a e ≡ true → has b k ≡ true → has (join e a b) k ≡ true
join_right e a b k h l = has_join e a b k ∙ rw (h, l) (or-true (has a k && not (eqb k e)))

pub join_cases : (e a b k : ℕ) → has (join e a b) k ≡ true → ((has a k ≡ true) × (k ≡ e → ⊥)) ⊎ ((has a e ≡ true) × (has b k ≡ true))
join_cases e a b k h = ways (has a k) (eqb k e) (has a e) (has b k) refl refl refl refl (sym (has_join e a b k) ∙ h)
  where
    ways : (x q y z : Bool) → has a k ≡ x → eqb k e ≡ q → has a e ≡ y → has b k ≡ z → ((x && not q) || (y && z)) ≡ true
        → ((has a k ≡ true) × (k ≡ e → ⊥)) ⊎ ((has a e ≡ true) × (has b k ≡ true))
    ways x q true true ex eq ey ez t = inr (ey, ez)
    ways true false true false ex eq ey ez t = inl (ex, eqb-false k e eq)
    ways true false false z ex eq ey ez t = inl (ex, eqb-false k e eq)
    ways true true true false ex eq ey ez t = clash false t refl
    ways true true false z ex eq ey ez t = clash false t refl
    ways false q true false ex eq ey ez t = clash false t refl
    ways false q false z ex eq ey ez t = clash false t refl

-- algebra

truths : (a n ae b bc : Bool) → ((((a && n) || (ae && b)) && n) || (ae && bc)) ≡ ((a && n) || (ae && ((b && n) || bc)))
truths true true true b bc = refl
truths true true false b bc = refl
truths true false true true bc = refl
truths true false true false bc = refl
truths true false false b bc = refl
truths false true true true bc = refl
truths false true true false bc = refl
truths false true false b bc = refl
truths false false true true bc = refl
truths false false true false bc = refl
truths false false false b bc = refl

and-and : (a b c : Bool) → ((a && b) && c) ≡ (a && (b && c))
and-and true b c = refl
and-and false b c = refl

pub join_assoc : (e a b c : ℕ) → join e (join e a b) c ≡ join e a (join e b c)
join_assoc e a b c = same_set (join e (join e a b) c) (join e a (join e b c)) (λ k.
    rw (has_join e (join e a b) c k, has-join_end e a b, has_join e a b k, has_join e a (join e b c) k, has_join e b c k, and-and (has a e) (has b e) (has c k))
    (truths (has a k) (not (eqb k e)) (has a e) (has b k) (has b e && has c k)))

pub join-single-left : (e b : ℕ) → join e (single e) b ≡ b
join-single-left e b = same_set (join e (single e) b) b (λ k.
    rw (has_join e (single e) b k, has-single e k, has-single e e, eq-eqb e e refl)
    (cases (eqb k e) (λ q. rw q) (λ q. rw q)))

pub join-single_right : (e a : ℕ) → join e a (single e) ≡ a
join-single_right e a = same_set (join e a (single e)) a (λ k.
    rw (has_join e a (single e) k, has-single e k)
    (cases (eqb k e)
    (λ q. rw (q, and-false (has a k), and-true (has a e)) (ap (has a) (sym (eqb-true k e q))))
    (λ q. rw (q, and-true (has a k), and-false (has a e)) (or-false (has a k)))))

pub join-within : (e a b c d : ℕ) → Within a c → Within b d → Within (join e a b) (join e c d)
join-within e a b c d f g k h =
    ⊎_elim
    (λ w. join-left e c d k (f k w.0) w.1)
    (λ w. join_right e c d k (f e w.0) (g k w.1))
    (join_cases e a b k h)

pub join_lt : (e n a b : ℕ) → a < 2 ^ n → b < 2 ^ n → join e a b < 2 ^ n
join_lt e n a b h l =
    cases (has a e)
    (λ t. rw (join_null e a b t) (union_lt n (without a e) b (without_lt n a e h) l))
    (λ t. rw (join_own e a b t) h)

-- of one symbol

pub first_of-terminal : (sets : List ℕ) (t : ℕ) → first_of sets (terminal t) ≡ single t
unfolding first_of
first_of-terminal sets t = refl

pub first_of-nonterminal : (sets : List ℕ) (n : ℕ) → first_of sets (nonterminal n) ≡ get_or sets n 0
unfolding first_of
first_of-nonterminal sets n = refl

-- of a list

pub end_marked-nil : (e : ℕ) (sets : List ℕ) → marked_at_end e sets [] ≡ single e
unfolding marked_at_end
end_marked-nil e sets = refl

pub end_marked-cons : (e : ℕ) (sets : List ℕ) (x : Symbol) (xs : List Symbol) → marked_at_end e sets (x ∷ xs) ≡ join e (first_of sets x) (marked_at_end e sets xs)
unfolding marked_at_end
end_marked-cons e sets x xs = refl

pub end_marked_one : (e : ℕ) (sets : List ℕ) (x : Symbol) → marked_at_end e sets (x ∷ []) ≡ first_of sets x
end_marked_one e sets x = end_marked-cons e sets x [] ∙ ap (join e (first_of sets x)) (end_marked-nil e sets) ∙ join-single_right e (first_of sets x)

-- of two joined lists from the two answers
pub end_marked-append : (e : ℕ) (sets : List ℕ) (xs ys : List Symbol) → marked_at_end e sets (xs ++ ys) ≡ join e (marked_at_end e sets xs) (marked_at_end e sets ys)
end_marked-append e sets [] ys = sym (ap (λ (a : ℕ). join e a (marked_at_end e sets ys)) (end_marked-nil e sets) ∙ join-single-left e (marked_at_end e sets ys))
end_marked-append e sets (x ∷ xs) ys =
    end_marked-cons e sets x (xs ++ ys) ∙ ap (join e (first_of sets x)) (end_marked-append e sets xs ys)
    ∙ sym (join_assoc e (first_of sets x) (marked_at_end e sets xs) (marked_at_end e sets ys))
    ∙ ap (λ (a : ℕ). join e a (marked_at_end e sets ys)) (sym (end_marked-cons e sets x xs))

pub end_marked_snoc : (e : ℕ) (sets : List ℕ) (xs : List Symbol) (x : Symbol) → marked_at_end e sets (xs ++ x ∷ []) ≡ join e (marked_at_end e sets xs) (first_of sets x)
end_marked_snoc e sets xs x = end_marked-append e sets xs (x ∷ []) ∙ ap (join e (marked_at_end e sets xs)) (end_marked_one e sets x)

-- a list that begins with a terminal
pub end_marked-terminal : (e : ℕ) (sets : List ℕ) (t : ℕ) (xs : List Symbol) → (t ≡ e → ⊥) → marked_at_end e sets (terminal t ∷ xs) ≡ single t
end_marked-terminal e sets t xs n =
    end_marked-cons e sets (terminal t) xs ∙ ap (λ (a : ℕ). join e a (marked_at_end e sets xs)) (first_of-terminal sets t)
    ∙ join_own e (single t) (marked_at_end e sets xs) (has-single t e ∙ ne_eqb e t (λ q. n (sym q)))

-- nullable: end is in the answer exactly if it is in that of each symbol
pub nullable-nil : (e : ℕ) (sets : List ℕ) → has (marked_at_end e sets []) e ≡ true
nullable-nil e sets = ap (λ (a : ℕ). has a e) (end_marked-nil e sets) ∙ has-single e e ∙ eq-eqb e e refl

pub nullable-cons : (e : ℕ) (sets : List ℕ) (x : Symbol) (xs : List Symbol) → has (marked_at_end e sets (x ∷ xs)) e ≡ (has (first_of sets x) e && has (marked_at_end e sets xs) e)
nullable-cons e sets x xs = ap (λ (a : ℕ). has a e) (end_marked-cons e sets x xs) ∙ has-join_end e (first_of sets x) (marked_at_end e sets xs)

pub nullable-append : (e : ℕ) (sets : List ℕ) (xs ys : List Symbol) → has (marked_at_end e sets (xs ++ ys)) e ≡ (has (marked_at_end e sets xs) e && has (marked_at_end e sets ys) e)
nullable-append e sets xs ys = ap (λ (a : ℕ). has a e) (end_marked-append e sets xs ys) ∙ has-join_end e (marked_at_end e sets xs) (marked_at_end e sets ys)

pub nullable-terminal : (e : ℕ) (sets : List ℕ) (t : ℕ) → (t ≡ e → ⊥) → has (first_of sets (terminal t)) e ≡ false
nullable-terminal e sets t n = ap (λ (a : ℕ). has a e) (first_of-terminal sets t) ∙ has-single t e ∙ ne_eqb e t (λ q. n (sym q))

-- it grows with the sets
pub first_of-within : (S R : List ℕ) → ((n : ℕ) → Within (get_or S n 0) (get_or R n 0)) → (x : Symbol) → Within (first_of S x) (first_of R x)
unfolding first_of
first_of-within S R h (terminal t) = within_refl (single t)
first_of-within S R h (nonterminal n) = h n

pub end_marked-within : (e : ℕ) (S R : List ℕ) → ((n : ℕ) → Within (get_or S n 0) (get_or R n 0)) → (xs : List Symbol) → Within (marked_at_end e S xs) (marked_at_end e R xs)
unfolding marked_at_end
end_marked-within e S R h [] = within_refl (single e)
end_marked-within e S R h (x ∷ xs) =
    join-within e (first_of S x) (marked_at_end e S xs) (first_of R x) (marked_at_end e R xs) (first_of-within S R h x) (end_marked-within e S R h xs)

-- it fits: every terminal and end below n, each set below 2 ^ n
unfoldable pub TerminalBelow : ℕ → Symbol → Type 0
TerminalBelow n (terminal t) = t < n
TerminalBelow n (nonterminal m) = Unit {0}

pub first_of_lt : (n : ℕ) (sets : List ℕ) → ((m : ℕ) → get_or sets m 0 < 2 ^ n) → (x : Symbol) → TerminalBelow n x → first_of sets x < 2 ^ n
unfolding first_of TerminalBelow
first_of_lt n sets h (terminal t) l = single_lt t n l
first_of_lt n sets h (nonterminal m) l = h m

pub end_marked_lt : (e n : ℕ) (sets : List ℕ) → e < n → ((m : ℕ) → get_or sets m 0 < 2 ^ n) → (xs : List Symbol) → All (TerminalBelow n) xs → marked_at_end e sets xs < 2 ^ n
unfolding marked_at_end All
end_marked_lt e n sets h l [] f = single_lt e n h
end_marked_lt e n sets h l (x ∷ xs) f = join_lt e n (first_of sets x) (marked_at_end e sets xs) (first_of_lt n sets l x f.0) (end_marked_lt e n sets h l xs f.1)

-- a lookahead in the place of end

pub followed-join : (e s ahead : ℕ) → followed (unmarked e s) ahead ≡ join e s ahead
unfolding followed unmarked
followed-join e s ahead =
    cases (has s e)
    (λ y. rw y (sym (join_null e s ahead y)))
    (λ n. rw n (without_no s e n ∙ sym (join_own e s ahead n)))

pub first1-join : (e : ℕ) (sets : List ℕ) (xs : List Symbol) (ahead : ℕ) → first1 e sets xs ahead ≡ join e (marked_at_end e sets xs) ahead
unfolding first1 first0
first1-join e sets xs ahead = followed-join e (marked_at_end e sets xs) ahead

pub first1-append : (e : ℕ) (sets : List ℕ) (xs ys : List Symbol) (ahead : ℕ) → first1 e sets (xs ++ ys) ahead ≡ first1 e sets xs (first1 e sets ys ahead)
first1-append e sets xs ys ahead =
    first1-join e sets (xs ++ ys) ahead ∙ ap (λ (a : ℕ). join e a ahead) (end_marked-append e sets xs ys)
    ∙ join_assoc e (marked_at_end e sets xs) (marked_at_end e sets ys) ahead
    ∙ sym (first1-join e sets xs (first1 e sets ys ahead) ∙ ap (join e (marked_at_end e sets xs)) (first1-join e sets ys ahead))
