-- Every example that `classify` shows is whole (`Shown` of specs/Printed): it has at most 33 labels, of at most 16 symbols each.
use Prim.Native.Nat.{ℕ, zero, suc, ◌+◌, ◌≤◌}
use native.Mathlib.Omega.{arith}
use mathlib.Core.Path.{◌≡◌, refl}
use mathlib.Core.Bool.{Bool, ◌&&◌}
use mathlib.Core.List.{List, [], ◌∷◌, ◌++◌, map}
use mathlib.Core.Option.{Option, none, some}
use lib.ListN.{length, drop, take, length-append}
use lib.Dec.{eqb, ltb, leb}
use Rattle.lr1_base.specs.repr.Sizes.{edge_limit, classify_scratch, trial_limit, reduction_limit, example_room, example_limit}
use Rattle.lr1_base.specs.words.Lent.{in_front}
use Rattle.lr1_base.specs.repr.Lists.{keep, joined, first?}
use Rattle.lr1_base.specs.repr.Meaning.{All, Symbol, Item, Production, Table, production_at}
use Rattle.lr1_base.proofs.repr.Lists.{cases, length_mapped, keep-nil, keep-yes, keep_no}
use Rattle.lr1_base.proofs.repr.Tests.{first?-nil, first?-yes, first?_no}
use Rattle.table.specs.Checked.{Checked, Accepted, Refused as NotAccepted}
use Rattle.table.specs.Decoded.{meaning}
use Rattle.table.specs.Refusals.{check_of}
use Rattle.table.proofs.Decoding.{fits}
use Rattle.lr1_base.specs.lookahead.Tokens.{single}
use Rattle.trace_graph.specs.Graph.{TraceEdge, at_item}
use Rattle.trace.specs.Shift.{shift_edges}
use Rattle.trace.specs.Reduce.{reduce_edges}
use Rattle.enumerator.specs.example.Example.{example_words}
use Rattle.enumerator.proofs.example.Sizes.{Short, short_of_lem, at_most_528, length-words}
use Rattle.enumerator.specs.trials.Trials.{Path, AllPaths, ends_of, trials}
use Rattle.enumerator.specs.trials.Lister.{hands, label_at, labels_of}
use Rattle.enumerator.proofs.trials.Short.{at_most_33}
use Rattle.conflict_sides.specs.declared.conflict.Conflict.{Conflict}
use Rattle.conflict_sides.specs.declared.conflict.Class.{Class}
use Rattle.conflict_sides.specs.declared.conflict.Class.TheVariants.{Naive, Ambiguity, Precedence, SuggestInline, InsufficientLookahead}
use Rattle.conflict_sides.specs.conflict.Numbers.{number_of_class, Reading}
use Rattle.conflict_sides.specs.conflict.Items.{shift_items}
use Rattle.conflict_sides.specs.conflict.Order.{Permutation, empty, alike, swap, through}
use Rattle.conflict_sides.specs.conflict.Sides.{Side, gathered, stopped, listing_side, with_more, examples_in, shift_side_from, shift_side, item_of_reduce, reduce_side, action_side_of, Gathered, sides, halted, both_sides, gather}
use Rattle.conflict_sides.specs.conflict.Sorted.{sorted_by, Pair, product, first_fit}
use Rattle.conflict_sides.specs.conflict.Judge.{Example, Judged, with_both, symbol_count, reduction_at, is_same_reading, is_operator_of, ambiguity_of_shift, ambiguity_of_reduce, ambiguity_of, question_of, suggest_question, inlines, inline_or, question_or, unambiguous, ambiguous_or, judge, judged}
use Rattle.conflict_sides.specs.conflict.Outcome.{Outcome, outcome, shown, judged_outcome, judged_with, gathered_outcome, gathered_with, conflict_fits, shifts_end, classified_in, classify_in_with, classify_by, classify_by_with, classify_of, classify_with}
use Rattle.conflict_sides.proofs.conflict.Sorted.{sorted_permutation}
use Rattle.output_text.specs.conflict_lines.Lines.{Whole, ReadingShown}
use Rattle.explain.specs.Printed.{OutcomeShown}

-- at most 33 labels
abbrev Few : Example → Type 0
Few ls = length ls ≤ reduction_limit

-- of all of a list, and of what an option holds
module _ {ℓ} {A : Type ℓ} (P : A → Type 0) where
  all_append : (xs ys : List A) → All P xs → All P ys → All P (xs ++ ys)
  unfolding All
  all_append [] ys a b = b
  all_append (x ∷ xs) ys a b = (a.0, all_append xs ys a.1 b)

  all_permuted : {xs ys : List A} → Permutation xs ys → All P ys → All P xs
  unfolding All
  all_permuted empty a = a
  all_permuted (alike x p) a = (a.0, all_permuted p a.1)
  all_permuted (swap x y xs) a = (a.1.0, (a.0, a.1.1))
  all_permuted (through p q) a = all_permuted p (all_permuted q a)

  unfoldable Held : Option A → Type 0
  Held none = Unit {0}
  Held (some x) = P x

  first-held : (t : A → Bool) (xs : List A) → All P xs → Held (first? t xs)
  unfolding All Held
  first-held t [] a = rw (first?-nil t) tt
  first-held t (x ∷ xs) a =
      let rest = first-held t xs a.1 in
      cases (t x) (λ e. rw (first?-yes t x xs e) a.0) (λ e. rw (first?_no t x xs e) rest)

-- the sides

labels_few : (ps : List Production) (es : List TraceEdge) (p : Path) → length p ≤ reduction_limit → Few (labels_of ps es p)
unfolding labels_of
labels_few ps es p h = let e = length_mapped (label_at ps es) p in omega arith

listed_few : (ps : List Production) (es : List TraceEdge) (t : Path → Bool) (ts : List Path) → AllPaths (λ p. length p ≤ reduction_limit) ts → All Few (map (labels_of ps es) (keep t ts))
unfolding All
listed_few ps es t [] a = rw (keep-nil t) tt
listed_few ps es t (p ∷ ts) a =
    let rest = listed_few ps es t ts a.1 in
    cases (t p) (λ e. rw (keep-yes t p ts e) (labels_few ps es p a.0, rest)) (λ e. rw (keep_no t p ts e) rest)

unfoldable SideFew : Side → Type 0
SideFew (stopped n) = Unit {0}
SideFew (gathered xs m) = All Few xs

listing_few : (T : Table) (es : List TraceEdge) (i : Item) (ahead : Option ℕ) (k : ℕ) → SideFew (listing_side T es i ahead k)
unfolding SideFew listing_side
listing_few T es i ahead k =
    let ts = trials (ends_of es) (at_item i) in
    cases (ltb edge_limit (length es))
    (λ a. rw (a, listing_side) tt)
    (λ a. cases (ltb example_limit (k + length (keep (hands T es ahead) (take trial_limit ts))))
    (λ b. rw (a, b, listing_side) tt)
    (λ b. cases (ltb trial_limit (length ts))
    (λ d. rw (a, b, d, listing_side) tt)
    (λ d. rw (a, b, d, listing_side) (listed_few T.productions es (hands T es ahead) ts (at_most_33 (ends_of es) (at_item i))))))

more_few : (so more : Side) → SideFew so → SideFew more → SideFew (with_more so more)
unfolding SideFew with_more
more_few (stopped n) more a b = tt
more_few (gathered xs m) (stopped n) a b = tt
more_few (gathered xs m) (gathered ys n) a b = all_append Few xs ys a b

shift_from_few : (T : Table) (s : ℕ) (so : Side) (is : List Item) → SideFew so → SideFew (shift_side_from T s so is)
unfolding shift_side_from
shift_from_few T s so [] a = a
shift_from_few T s so (i ∷ is) a =
    let more = listing_side T (shift_edges T s i) i none (examples_in so) in
    shift_from_few T s (with_more so more) is (more_few so more a (listing_few T (shift_edges T s i) i none (examples_in so)))

shift_few : (T : Table) (s token : ℕ) → SideFew (shift_side T s token)
unfolding shift_side SideFew All
shift_few T s token = shift_from_few T s (gathered [] 0) (shift_items T s token) tt

reduce_few : (T : Table) (s p token : ℕ) → SideFew (reduce_side T s p token)
unfolding reduce_side
reduce_few T s p token = listing_few T (reduce_edges T s (item_of_reduce T p)) (item_of_reduce T p) (some (single token)) 0

action_few : (T : Table) (s a operand token : ℕ) → SideFew (action_side_of T s a operand token)
unfolding action_side_of
action_few T s zero operand token = shift_few T s token
action_few T s (suc k) operand token = reduce_few T s operand token

unfoldable GatheredFew : Gathered → Type 0
GatheredFew (halted n) = Unit {0}
GatheredFew (sides as' m rs n) = All Few as' × All Few rs

both_few : (a r : Side) → SideFew a → SideFew r → GatheredFew (both_sides a r)
unfolding SideFew GatheredFew both_sides
both_few (stopped n) r x y = tt
both_few (gathered xs m) (stopped n) x y = tt
both_few (gathered xs m) (gathered ys n) x y = (x, y)

gather_few : (T : Table) (c : Conflict) → GatheredFew (gather T c)
unfolding gather
gather_few T c =
    both_few (action_side_of T c.state.0 c.action c.operand c.token) (reduce_side T c.state.0 c.production.0 c.token)
    (action_few T c.state.0 c.action c.operand c.token) (reduce_few T c.state.0 c.production.0 c.token)

-- the class

abbrev PairFew : Pair Example → Type 0
PairFew p = Few p.action × Few p.reduce

row_few : (a : Example) (rs : List Example) → Few a → All Few rs → All PairFew (map (λ r. record { action = a; reduce = r }) rs)
unfolding All
row_few a [] h k = tt
row_few a (r ∷ rs) h k = ((h, k.0), row_few a rs h k.1)

product_few : (as' rs : List Example) → All Few as' → All Few rs → All PairFew (product as' rs)
unfolding All product joined
product_few [] rs h k = tt
product_few (a ∷ as') rs h k =
    all_append PairFew (map (λ r. record { action = a; reduce = r }) rs) (product as' rs) (row_few a rs h.0 k) (product_few as' rs h.1 k)

pair_few : (t : Example → Example → Bool) (as' rs : List Example) → All Few as' → All Few rs → Held PairFew (first_fit t as' rs)
unfolding first_fit
pair_few t as' rs h k = first-held PairFew (λ p. t p.action p.reduce) (product as' rs) (product_few as' rs h k)

unfoldable SomeFew : Option Example → Type 0
SomeFew none = ⊥
SomeFew (some ls) = Few ls

-- naive shows no example, class 5 the action's, any other both
record JudgedFew (j : Judged) : Type 0 where
  action_few : (number_of_class j.class ≡ 0 → ⊥) → SomeFew j.action
  reduce_few : (number_of_class j.class ≡ 0 → ⊥) → (number_of_class j.class ≡ 5 → ⊥) → SomeFew j.reduce

with_few : (k : Class) (p : Pair Example) → PairFew p → JudgedFew (with_both k p)
unfolding with_both SomeFew
with_few k p h = record { action_few = λ _. h.0; reduce_few = λ _ _. h.1 }

naive_few : JudgedFew (record { class = Naive; action = none; reduce = none })
unfolding number_of_class
naive_few = record { action_few = λ e. absurd (e refl); reduce_few = λ e _. absurd (e refl) }

ambiguity_few : (T : Table) (production action operand : ℕ) (p : Pair Example) → PairFew p → JudgedFew (ambiguity_of T production action operand p)
unfolding ambiguity_of ambiguity_of_shift ambiguity_of_reduce number_of_class SomeFew
ambiguity_few T production zero operand p h =
    let P = production_at T production in
    cases (is_operator_of P operand)
    (λ e. rw (e, ambiguity_of_shift) (with_few (Precedence (record { 0 = P.nonterminal })) p h))
    (λ e. rw (e, ambiguity_of_shift) (with_few Ambiguity p h))
ambiguity_few T production (suc k) operand p h =
    let ps = T.productions in
    cases (eqb (reduction_at ps p.action 0).nonterminal (reduction_at ps p.reduce 0).nonterminal)
    (λ e. rw (e, ambiguity_of_reduce) (record { action_few = λ _. h.0; reduce_few = λ _ n. absurd (n refl) }))
    (λ e. rw (e, ambiguity_of_reduce) (with_few Ambiguity p h))

inline_few : (ps : List Production) (firsts : Pair Example) (o : Option (Pair Example)) → PairFew firsts → Held PairFew o → JudgedFew (inline_or ps firsts o)
unfolding inline_or Held
inline_few ps firsts none h k = with_few InsufficientLookahead firsts h
inline_few ps firsts (some p) h k = with_few (SuggestInline (record { 0 = (reduction_at ps p.reduce 0).nonterminal })) p k

question_few : (n : ℕ) (firsts : Pair Example) (o : Option Symbol) (other : Judged) → PairFew firsts → JudgedFew other → JudgedFew (question_or n firsts o other)
unfolding question_or
question_few n firsts none other h k = k
question_few n firsts (some x) other h k = with_few (suggest_question n x) firsts h

unambiguous_few : (T : Table) (production action : ℕ) (as' rs : List Example) (firsts : Pair Example) → All Few as' → All Few rs → PairFew firsts → JudgedFew (unambiguous T production action as' rs firsts)
unfolding unambiguous
unambiguous_few T production zero as' rs firsts a r h =
    let n = (production_at T production).nonterminal in
    let inline = inline_or T.productions firsts (first_fit (inlines T) as' rs) in
    question_few n firsts (question_of T n) inline h (inline_few T.productions firsts (first_fit (inlines T) as' rs) h (pair_few (inlines T) as' rs a r))
unambiguous_few T production (suc k) as' rs firsts a r h = with_few InsufficientLookahead firsts h

ambiguous_few : (T : Table) (c : Conflict) (o : Option (Pair Example)) (other : Judged) → Held PairFew o → JudgedFew other → JudgedFew (ambiguous_or T c o other)
unfolding ambiguous_or Held
ambiguous_few T c none other h k = k
ambiguous_few T c (some p) other h k = ambiguity_few T c.production.0 c.action c.operand p h

judge_few : (T : Table) (c : Conflict) (as' rs : List Example) → All Few as' → All Few rs → JudgedFew (judge T c as' rs)
unfolding judge All
judge_few T c [] rs a r = naive_few
judge_few T c (x ∷ as') [] a r = naive_few
judge_few T c (x ∷ as') (y ∷ rs) a r =
    ambiguous_few T c (first_fit (is_same_reading T.productions) (x ∷ as') (y ∷ rs)) (unambiguous T c.production.0 c.action (x ∷ as') (y ∷ rs) (record { action = x; reduce = y }))
    (pair_few (is_same_reading T.productions) (x ∷ as') (y ∷ rs) a r)
    (unambiguous_few T c.production.0 c.action (x ∷ as') (y ∷ rs) (record { action = x; reduce = y }) a r (a.0, r.0))

judged_few : (T : Table) (c : Conflict) (as' rs : List Example) → All Few as' → All Few rs → JudgedFew (judged T c as' rs)
unfolding judged
judged_few T c as' rs a r =
    let key = symbol_count T.productions in
    judge_few T c (sorted_by key as') (sorted_by key rs) (all_permuted Few (sorted_permutation key as') a) (all_permuted Few (sorted_permutation key rs) r)

-- the buffers

words-whole : (ps : List Production) → Short ps → (o : Option Example) (buffer : List ℕ) → SomeFew o → Whole (shown ps o buffer)
unfolding SomeFew shown in_front example_words
words-whole ps short none buffer h = absurd h
words-whole ps short (some ls) buffer h = record {
  few_symbols = at_most_528 ps short ls h;
  few_reductions = h;
  long =
      let a = length-append (example_words ps ls) (drop (length (example_words ps ls)) buffer) in
      let b = length-words ps ls in
      omega (arith, a, b);
}

judged-shown : (ps : List Production) → Short ps → (m n : ℕ) (scratch action reduce : List ℕ) (j : Judged) → JudgedFew j → OutcomeShown (judged_outcome ps m n scratch action reduce j)
unfolding judged_with OutcomeShown ReadingShown
judged-shown ps short m n scratch action reduce j J = record {
  action_whole = λ a. words-whole ps short j.action action (J.action_few a);
  reduce_whole = λ a b. words-whole ps short j.reduce reduce (J.reduce_few a b);
}

gathered-shown : (T : Table) → Short T.productions → (c : Conflict) (scratch action reduce : List ℕ) (g : Gathered) → GatheredFew g → OutcomeShown (gathered_outcome T c scratch action reduce g)
unfolding gathered_with GatheredFew OutcomeShown ReadingShown
gathered-shown T short c scratch action reduce (halted n) h = tt
gathered-shown T short c scratch action reduce (sides as' m rs n) h =
    judged-shown T.productions short m n scratch action reduce (judged T c as' rs) (judged_few T c as' rs h.0 h.1)

in_shown : (c : Conflict) (scratch action reduce : List ℕ) (T : Table) → Short T.productions → OutcomeShown (classified_in c scratch action reduce T)
unfolding classify_in_with OutcomeShown ReadingShown
in_shown c scratch action reduce T short =
    cases (conflict_fits T c)
    (λ a. cases (shifts_end T c)
    (λ b. rw (a, b, classify_in_with) tt)
    (λ b. cases (leb classify_scratch (length scratch) && (leb example_room (length action) && leb example_room (length reduce)))
    (λ d. rw (a, b, d, classify_in_with) (gathered-shown T short c scratch action reduce (gather T c) (gather_few T c)))
    (λ d. rw (a, b, d, classify_in_with) tt)))
    (λ a. rw (a, classify_in_with) tt)

by_shown : (t : List ℕ) (c : Conflict) (scratch action reduce : List ℕ) (k : Checked) → check_of t ≡ k → OutcomeShown (classify_by t c scratch action reduce k)
unfolding classify_by_with OutcomeShown ReadingShown
by_shown t c scratch action reduce (NotAccepted n r) e = tt
by_shown t c scratch action reduce Accepted e = in_shown c scratch action reduce (meaning t) (short_of_lem (meaning t) (fits t e))

-- whatever is classified, the examples that are printed are whole
pub outcome-shown : (t : List ℕ) (c : Conflict) (scratch action reduce : List ℕ) → OutcomeShown (classify_of t c scratch action reduce)
unfolding classify_with
outcome-shown t c scratch action reduce = by_shown t c scratch action reduce (check_of t) refl

pub reading_shown : {q : Reading} {scratch action reduce : List ℕ} {o : Outcome} → outcome q scratch action reduce ≡ o → OutcomeShown o → ReadingShown q action reduce
unfolding OutcomeShown
reading_shown e S = rw (← e) at S
