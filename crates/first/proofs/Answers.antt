-- The algebra of answers (specs/First): joining two is associative and FIRST of nothing neutral, for all answers; so FIRST of two joined lists is the two answers
-- joined, for every table.
use mathlib.Core.Path.{◌≡◌, refl, sym, ap, ◌∙◌}
use mathlib.Core.Bool.{true, false, ◌||◌, and-true, and-false}
use mathlib.Core.List.{List, [], ◌++◌}
use Prim.Native.Nat.{ℕ}
use lib.Dec.{eqb}
use borrow.Author.Tests.{eq-eqb}
use Rattle.lr1_base.specs.repr.Meaning.{Symbol, Table}
use Rattle.lr1_base.proofs.repr.Lists.{cases}
use Rattle.lr1_base.specs.lookahead.Tokens.{has, single, union, without}
use Rattle.lr1_base.proofs.lookahead.Laws.{has-union, has-single, has-without}
use Rattle.lr1_base.proofs.lookahead.Sets.{same_set, empty-set, union_assoc, union-zero-left, union-zero_right}
use Rattle.first.specs.declared.Answer.{Answer}
use Rattle.first.specs.First.{join, marked_at_end, unmarked, first0, followed, join_answers, empty_answer, FIRST, sets_of_first}
use Rattle.first.proofs.Join.{join_null, join_own, has-join_end, end_marked-nil, end_marked-append}

pub followed_null : (a : Answer) (s : ℕ) → a.nullable ≡ true → followed a s ≡ union a.tokens.0 s
unfolding followed
followed_null a s y = rw y

pub followed_own : (a : Answer) (s : ℕ) → a.nullable ≡ false → followed a s ≡ a.tokens.0
unfolding followed
followed_own a s n = rw n

-- an answer from its parts
pub same_answer : (a b : Answer) → a.tokens.0 ≡ b.tokens.0 → a.nullable ≡ b.nullable → a ≡ b
same_answer a b p q = λ j. record { tokens = record { 0 = p j }; nullable = q j }

-- a list that is not nullable hides what follows
pub join-stop : (a b : Answer) → a.nullable ≡ false → join_answers a b ≡ a
unfolding join_answers
join-stop a b n = same_answer (join_answers a b) a (followed_own a b.tokens.0 n) (rw n)

pub join_more : (a b : Answer) (s : ℕ) → a.nullable ≡ true → s ≡ union a.tokens.0 b.tokens.0 → record { tokens = record { 0 = s }; nullable = b.nullable } ≡ join_answers a b
unfolding join_answers
join_more a b s y e =
    same_answer (record { tokens = record { 0 = s }; nullable = b.nullable }) (join_answers a b) (e ∙ sym (followed_null a b.tokens.0 y)) (rw y)

pub join_answers_assoc : (a b c : Answer) → join_answers (join_answers a b) c ≡ join_answers a (join_answers b c)
unfolding join_answers followed
join_answers_assoc a b c =
    cases a.nullable
    (λ y.
    cases b.nullable
    (λ z. rw (y, z, union_assoc a.tokens.0 b.tokens.0 c.tokens.0) refl)
    (λ z. rw (y, z) refl))
    (λ n. rw n refl)

pub join-empty-left : (a : Answer) → join_answers empty_answer a ≡ a
unfolding join_answers followed empty_answer
join-empty-left a = same_answer (join_answers empty_answer a) a (union-zero-left a.tokens.0) refl

pub join-empty_right : (a : Answer) → join_answers a empty_answer ≡ a
unfolding join_answers followed empty_answer
join-empty_right a =
    same_answer (join_answers a empty_answer) a
    (cases a.nullable (λ y. rw y (union-zero_right a.tokens.0)) (λ n. rw n refl))
    (and-true a.nullable)

-- of the marked_at_end sets

without-join : (e a b : ℕ) → without (join e a b) e ≡ followed (unmarked e a) (without b e)
unfolding unmarked
without-join e a b =
    cases (has a e)
    (λ y.
    ap (λ (s : ℕ). without s e) (join_null e a b y)
    ∙ same_set (without (union (without a e) b) e) (union (without a e) (without b e)) (λ k.
    has-without (union (without a e) b) e k
    ∙ sym (has-union (without a e) (without b e) k
    ∙ rw (has-union (without a e) b k, has-without a e k, has-without b e k)
    (cases (eqb k e)
    (λ q. rw (q, and-false (has a k), and-false (has b k)) refl)
    (λ q. rw (q, and-true (has a k), and-true (has b k)) (sym (and-true (has a k || has b k)))))))
    ∙ sym (followed_null (unmarked e a) (without b e) y))
    (λ n. ap (λ (s : ℕ). without s e) (join_own e a b n) ∙ sym (followed_own (unmarked e a) (without b e) n))

pub unmarked-join : (e a b : ℕ) → unmarked e (join e a b) ≡ join_answers (unmarked e a) (unmarked e b)
unfolding unmarked join_answers
unmarked-join e a b = same_answer (unmarked e (join e a b)) (join_answers (unmarked e a) (unmarked e b)) (without-join e a b) (has-join_end e a b)

pub first0-nil : (e : ℕ) (sets : List ℕ) → first0 e sets [] ≡ empty_answer
unfolding first0 unmarked empty_answer
first0-nil e sets =
    rw (end_marked-nil e sets)
    (same_answer (unmarked e (single e)) empty_answer
    (empty-set (without (single e) e) (λ k.
    has-without (single e) e k ∙ rw (has-single e k) (cases (eqb k e) (λ q. rw q refl) (λ q. rw q refl))))
    (has-single e e ∙ eq-eqb e e refl))

pub first0-append : (e : ℕ) (sets : List ℕ) (xs ys : List Symbol) → first0 e sets (xs ++ ys) ≡ join_answers (first0 e sets xs) (first0 e sets ys)
unfolding first0
first0-append e sets xs ys = ap (unmarked e) (end_marked-append e sets xs ys) ∙ unmarked-join e (marked_at_end e sets xs) (marked_at_end e sets ys)

-- of a table

pub FIRST-nil : (T : Table) → FIRST T [] ≡ empty_answer
unfolding FIRST
FIRST-nil T = first0-nil T.terminals (sets_of_first T.terminals T.productions)

pub FIRST-append : (T : Table) (xs ys : List Symbol) → FIRST T (xs ++ ys) ≡ join_answers (FIRST T xs) (FIRST T ys)
unfolding FIRST
FIRST-append T xs ys = first0-append T.terminals (sets_of_first T.terminals T.productions) xs ys
