-- The lines of specs/conflict_lines/Lines, put piece by piece.
use Prim.Native.Nat.{ℕ, zero, suc, ◌+◌, ◌*◌, ◌≤◌, ◌<◌}
use native.Mathlib.Omega.{arith}
use mathlib.Core.Path.{◌≡◌, refl, sym, ap, ◌∙◌}
use mathlib.Core.Logic.{◌⊎◌, inl, inr}
use mathlib.Core.List.{List, [], ◌∷◌, ◌++◌, append-nil}
use lib.ListN.{length, get_or, take, drop}
use lib.Seq.{take-suc, take-length}
use borrow.Author.Tests.{ne_eqb}
use Rattle.std.specs.Prelude.{Result, Ok, Err, ◌/◌, not, nat_eq}
use mathlib.Core.Bool.{cond}
use Rattle.std.specs.List.{count_by, sum_by}
use Rattle.std.proofs.lemmas.List.Sums.{sum_by-cons}
use Rattle.std.specs.Simd.{first_chunks}
use Rattle.lr1_base.proofs.repr.Lists.{cases, joined_append}
use Rattle.lr1_base.specs.repr.Sizes.{reduction_room}
use Rattle.lr1_base.specs.repr.Lists.{joined}
use Rattle.conflict_sides.specs.conflict.Numbers.{number_of_class, values_of_class}
use Rattle.lr1_base.specs.declared.repr.NonterminalString.{NonterminalString}
use Rattle.conflict_sides.specs.declared.conflict.Class.{Class}
use Rattle.conflict_sides.specs.declared.conflict.Class.TheVariants.{Naive, Ambiguity, Precedence, SuggestInline, SuggestQuestion, AmbiguousReduction, InsufficientLookahead}
use Rattle.conflict_sides.specs.declared.conflict.Classification.{Classification}
use Rattle.lr1_base.specs.numerals.Numeral.{numeral}
use Rattle.output_text.specs.conflict_lines.Lines.{Put, Shown, ReadingShown, spaced, symbol_text, reduction_text, symbol_texts, reduction_texts, counted, total_of_symbols, printed_length, example_line, own_text, class_line, refused_text, line_of_refusal, example_lines, lines_of, reading_in}
use Rattle.output_text.proofs.conflict_lines.Laws.{put-nothing, put_then, put_as, put_all, put-within}

pub symbol-put : {a b c : List ℕ} {at m r : ℕ} (k n : ℕ) → Put a at (32 ∷ numeral k) b m → Put b m (47 ∷ numeral n) c r → Put a at (symbol_text k n) c r
unfolding symbol_text spaced
symbol-put k n P Q = put_then P Q

pub reduction_put : {a b c d : List ℕ} {at m l r : ℕ} (s e n : ℕ) → Put a at (32 ∷ numeral s) b m → Put b m (45 ∷ numeral e) c l → Put c l (47 ∷ numeral n) d r → Put a at (reduction_text s e n) d r
unfolding reduction_text spaced
reduction_put s e n P Q R = put_then P (put_then Q R)

pub refused-put : {a b c d e f : List ℕ} {m₁ m₂ m₃ m₄ r : ℕ} (k n p : ℕ) → Put a 0 (numeral k) b m₁ → Put b m₁ refused_text c m₂ → Put c m₂ (32 ∷ numeral n) d m₃ → Put d m₃ (32 ∷ numeral p) e m₄ → Put e m₄ (10 ∷ []) f r
    → Put a 0 (line_of_refusal k n p) f r
unfolding line_of_refusal spaced
refused-put k n p P Q R S T = put_then P (put_then Q (put_then R (put_then S T)))

-- a class's own values
pub own_nothing : {k : Class} (a : List ℕ) (at : ℕ) → (k ≡ Naive) ⊎ ((k ≡ Ambiguity) ⊎ (k ≡ InsufficientLookahead)) → Put a at (own_text (values_of_class k)) a at × (at ≤ at + 84)
unfolding own_text values_of_class
own_nothing a at (inl e) = (rw e (put-nothing a at), omega arith)
own_nothing a at (inr (inl e)) = (rw e (put-nothing a at), omega arith)
own_nothing a at (inr (inr e)) = (rw e (put-nothing a at), omega arith)

pub own_nonterminal : {k : Class} {a b : List ℕ} {at r : ℕ} {n : NonterminalString} → (k ≡ Precedence n) ⊎ (k ≡ SuggestInline n) → Put a at (32 ∷ numeral n.0) b r → Put a at (own_text (values_of_class k)) b r
unfolding own_text values_of_class spaced
own_nonterminal (inl e) P = rw e P
own_nonterminal (inr e) P = rw e P

pub own_question : {k : Class} {a b c : List ℕ} {at m r s x : ℕ} {n : NonterminalString} → k ≡ SuggestQuestion n s x → Put a at (32 ∷ numeral n.0) b m → Put b m (symbol_text s x) c r → Put a at (own_text (values_of_class k)) c r
unfolding own_text values_of_class spaced
own_question e P Q = rw e (put_then P Q)

pub own_reduction : {k : Class} {a b c d f : List ℕ} {at m₁ m₂ m₃ r x y z w : ℕ} → k ≡ AmbiguousReduction x y z w → Put a at (32 ∷ numeral x) b m₁ → Put b m₁ (32 ∷ numeral y) c m₂ → Put c m₂ (32 ∷ numeral z) d m₃ → Put d m₃ (32 ∷ numeral w) f r
    → Put a at (own_text (values_of_class k)) f r
unfolding own_text values_of_class spaced joined
own_reduction {w = w} e P Q R S = rw e (put_then P (put_then Q (put_then R (put_as S (sym (append-nil (32 ∷ numeral w)))))))

pub class_put : {a b c d e f g : List ℕ} {m₁ m₂ m₃ m₄ m₅ r x n : ℕ} (k i j : ℕ) (vs : List ℕ) → x ≡ n
    → Put a 0 (numeral k) b m₁ → Put b m₁ (32 ∷ numeral x) c m₂ → Put c m₂ (32 ∷ numeral i) d m₃ → Put d m₃ (32 ∷ numeral j) e m₄ → Put e m₄ (own_text vs) f m₅ → Put f m₅ (10 ∷ []) g r
    → Put a 0 (class_line k n vs i j) g r
unfolding class_line spaced
class_put k i j vs eq P Q R S T U = put_then P (put_then (put_as Q (ap (λ (y : ℕ). 32 ∷ numeral y) eq)) (put_then R (put_then S (put_then T U))))

-- parts, the first i of them being put, each of at most n bytes
pub record Parts (text : List ℕ → List ℕ) (n : ℕ) (old : List ℕ) (at : ℕ) (parts : List (List ℕ)) (new : List ℕ) (place i : ℕ) : Type 0 where
  pub within : i ≤ length parts
  pub put : Put old at (joined text (take i parts)) new place
  pub small : place ≤ at + i * n

pub parts-first : (text : List ℕ → List ℕ) (n : ℕ) (old : List ℕ) (at : ℕ) (parts : List (List ℕ)) → Parts text n old at parts old at 0
unfolding joined
parts-first text n old at parts = record { within = omega arith; put = put-nothing old at; small = omega arith }

joined_more : (text : List ℕ → List ℕ) (l : List (List ℕ)) (x : List ℕ) → joined text (l ++ (x ∷ [])) ≡ joined text l ++ text x
unfolding joined
joined_more text l x = joined_append text l (x ∷ []) ∙ ap (λ (t : List ℕ). joined text l ++ t) (append-nil (text x))

pub parts_more : {text : List ℕ → List ℕ} {n : ℕ} {old : List ℕ} {at : ℕ} {parts : List (List ℕ)} {new : List ℕ} {place i : ℕ} {new' : List ℕ} {r : ℕ} → Parts text n old at parts new place i → i < length parts
    → Put new place (text (get_or parts i [])) new' r → r ≤ place + n → Parts text n old at parts new' r (i + 1)
parts_more {text} {n} {old} {at} {parts} {new} {place} {i} {new'} {r} S h P le =
    let s = S.small in
    let e : i + 1 ≡ suc i = omega arith in
    let t : joined text (take (i + 1) parts) ≡ joined text (take i parts) ++ text (get_or parts i []) =
    ap (λ (k : ℕ). joined text (take k parts)) e ∙ ap (joined text) (take-suc parts i [] h) ∙ joined_more text (take i parts) (get_or parts i []) in
    let m : (i + 1) * n ≡ i * n + n = omega arith in
    record { within = omega arith; put = put_as (put_then S.put P) (sym t); small = omega (arith, m) }

pub parts_end : {text : List ℕ → List ℕ} {n : ℕ} {old : List ℕ} {at : ℕ} {parts : List (List ℕ)} {new : List ℕ} {place i : ℕ} → Parts text n old at parts new place i → length parts ≤ i → Put old at (joined text parts) new place
parts_end {text} {parts = parts} {i = i} S h =
    let w = S.within in
    let e : i ≡ length parts = omega arith in
    put_as S.put (ap (λ (k : ℕ). joined text (take k parts)) e ∙ ap (joined text) (take-length parts))

abbrev pub symbol_of : List ℕ → List ℕ
symbol_of pair = symbol_text (get_or pair 0 0) (get_or pair 1 0)

pub symbols_all : (ws : List ℕ) → joined symbol_of (first_chunks 2 (length ws / 2) ws) ≡ symbol_texts ws
unfolding joined symbol_texts
symbols_all [] = refl
symbols_all (k ∷ []) = refl
symbols_all (k ∷ n ∷ ws) =
    let more : length (k ∷ n ∷ ws) / 2 ≡ suc (length ws / 2) = omega arith in
    ap (λ (j : ℕ). joined symbol_of (first_chunks 2 j (k ∷ n ∷ ws))) more ∙ ap (λ (l : List ℕ). symbol_text k n ++ l) (symbols_all ws)

-- how many are symbols
counted-more : (x y z w : ℕ) → y ≡ z + w → x + y ≡ x + z + w
counted-more x y z w e = omega arith

pub total_append : (k : ℕ) (l m : List ℕ) → length l ≡ k * 2 → total_of_symbols (l ++ m) ≡ total_of_symbols l + total_of_symbols m
unfolding total_of_symbols
total_append k [] m e = omega arith
total_append k (a ∷ []) m e = absurd (omega arith)
total_append zero (a ∷ b ∷ l) m e = absurd (omega arith)
total_append (suc k) (a ∷ b ∷ l) m e = counted-more (counted a) _ _ _ (total_append k l m (omega arith))

-- by pairs, those that are no mark
pub total_pairs : (ws : List ℕ) → count_by (λ (pair : List ℕ). not (nat_eq (get_or pair 0 0) 2)) (first_chunks 2 (length ws / 2) ws) ≡ total_of_symbols ws
unfolding total_of_symbols counted
total_pairs [] = refl
total_pairs (k ∷ []) = refl
total_pairs (k ∷ n ∷ ws) =
    let value : List ℕ → ℕ = λ (pair : List ℕ). cond (not (nat_eq (get_or pair 0 0) 2)) 1 0 in
    let more : length (k ∷ n ∷ ws) / 2 ≡ suc (length ws / 2) = omega arith in
    let first : value (k ∷ n ∷ []) ≡ counted k = cases (nat_eq k 2) (λ m. rw (m, counted) refl) (λ m. rw (m, counted) refl) in
    ap (λ (j : ℕ). sum_by value (first_chunks 2 j (k ∷ n ∷ ws))) more ∙ sum_by-cons value (k ∷ n ∷ []) (first_chunks 2 (length ws / 2) ws) ∙ (λ i. first i + total_pairs ws i)

abbrev pub reduction_of : List ℕ → List ℕ
reduction_of three = reduction_text (get_or three 0 0) (get_or three 1 0) (get_or three 2 0)

pub reductions_all : (ws : List ℕ) → joined reduction_of (first_chunks 3 (length ws / 3) ws) ≡ reduction_texts ws
unfolding joined reduction_texts
reductions_all [] = refl
reductions_all (a ∷ []) = refl
reductions_all (a ∷ b ∷ []) = refl
reductions_all (a ∷ b ∷ n ∷ ws) =
    let more : length (a ∷ b ∷ n ∷ ws) / 3 ≡ suc (length ws / 3) = omega arith in
    ap (λ (j : ℕ). joined reduction_of (first_chunks 3 j (a ∷ b ∷ n ∷ ws))) more ∙ ap (λ (l : List ℕ). reduction_text a b n ++ l) (reductions_all ws)

-- the line of an example
pub example-put : {a b c d e f g : List ℕ} {at m₁ m₂ m₃ m₄ m₅ r : ℕ} {letter total cursor : ℕ} {symbols reductions : List ℕ} (example : List ℕ) → total ≡ printed_length example → cursor ≡ get_or example 1 0
    → symbols ≡ take (2 * get_or example 0 0) (drop 3 example) → reductions ≡ take (reduction_room * get_or example 2 0) (drop (3 + 2 * get_or example 0 0) example)
    → Put a at (letter ∷ []) b m₁ → Put b m₁ (32 ∷ numeral total) c m₂ → Put c m₂ (32 ∷ numeral cursor) d m₃ → Put d m₃ (symbol_texts symbols) e m₄ → Put e m₄ (reduction_texts reductions) f m₅ → Put f m₅ (10 ∷ []) g r
    → Put a at (example_line letter example) g r
unfolding example_line spaced
example-put example et ec es er P Q R S T U =
    let Q' = put_as Q (ap (λ (k : ℕ). 32 ∷ numeral k) et) in
    let R' = put_as R (ap (λ (k : ℕ). 32 ∷ numeral k) ec) in
    let S' = put_as S (ap symbol_texts es) in
    let T' = put_as T (ap reduction_texts er) in
    put_then P (put_then Q' (put_then R' (put_then S' (put_then T' U))))

-- which examples are shown
pub examples_naive : {k : Class} (a : List ℕ) (at : ℕ) (x y : List ℕ) → k ≡ Naive → Put a at (example_lines (number_of_class k) x y) a at
unfolding example_lines number_of_class
examples_naive a at x y e = rw e (put-nothing a at)

pub examples_action : {k : Class} {a b : List ℕ} {at r s e o u : ℕ} (x y : List ℕ) → k ≡ AmbiguousReduction s e o u → Put a at (example_line 97 x) b r → Put a at (example_lines (number_of_class k) x y) b r
unfolding example_lines number_of_class
examples_action x y i P = rw i P

-- the classes that show both
pub number_no_naive : (k : Class) → (k ≡ Naive → ⊥) → number_of_class k ≡ 0 → ⊥
unfolding number_of_class
number_no_naive Naive n e = n refl
number_no_naive Ambiguity n e = absurd (omega arith)
number_no_naive (Precedence m) n e = absurd (omega arith)
number_no_naive (SuggestInline m) n e = absurd (omega arith)
number_no_naive (SuggestQuestion m s x) n e = absurd (omega arith)
number_no_naive (AmbiguousReduction x y z w) n e = absurd (omega arith)
number_no_naive InsufficientLookahead n e = absurd (omega arith)

pub number_no_reduction : (k : Class) → ((x y z w : ℕ) → k ≡ AmbiguousReduction x y z w → ⊥) → number_of_class k ≡ 5 → ⊥
unfolding number_of_class
number_no_reduction Naive n e = absurd (omega arith)
number_no_reduction Ambiguity n e = absurd (omega arith)
number_no_reduction (Precedence m) n e = absurd (omega arith)
number_no_reduction (SuggestInline m) n e = absurd (omega arith)
number_no_reduction (SuggestQuestion m s x) n e = absurd (omega arith)
number_no_reduction (AmbiguousReduction x y z w) n e = n x y z w refl
number_no_reduction InsufficientLookahead n e = absurd (omega arith)

pub examples_both : {a b c : List ℕ} {at m r : ℕ} (k : ℕ) (x y : List ℕ) → (k ≡ 0 → ⊥) → (k ≡ 5 → ⊥) → Put a at (example_line 97 x) b m → Put b m (example_line 114 y) c r → Put a at (example_lines k x y) c r
unfolding example_lines
examples_both k x y n e P Q = rw (ne_eqb k 0 n, ne_eqb k 5 e, example_lines) (put_then P Q)

-- the lines of a conflict
pub lines-refused : {k : Result Classification (ℕ × ℕ)} {a b : List ℕ} {r : ℕ} {e : ℕ × ℕ} (n : ℕ) (x y : List ℕ) → k ≡ Err e → Put a 0 (line_of_refusal n e.0 e.1) b r → (take r b ≡ lines_of n (reading_in k) x y) × (r ≤ length b)
unfolding lines_of reading_in
lines-refused n x y e P = (rw e (put_all P), put-within P)

pub lines_class : {k : Result Classification (ℕ × ℕ)} {a b c : List ℕ} {m r : ℕ} (n : ℕ) (x y : List ℕ) {q : Classification} → k ≡ Ok q → Put a 0 (class_line n (number_of_class q.class) (values_of_class q.class) q.action_trials q.reduce_trials) b m → Put b m (example_lines (number_of_class q.class) x y) c r
    → (take r c ≡ lines_of n (reading_in k) x y) × (r ≤ length c)
unfolding lines_of reading_in
lines_class n x y e P Q = let W = put_then P Q in (rw e (put_all W), put-within W)

pub class_shown : {k : Result Classification (ℕ × ℕ)} {x y : List ℕ} {q : Classification} → k ≡ Ok q → ReadingShown (reading_in k) x y → Shown (number_of_class q.class) x y
unfolding ReadingShown reading_in
class_shown e S = rw e at S
