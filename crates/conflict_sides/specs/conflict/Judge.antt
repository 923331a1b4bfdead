-- The class of a conflict from what was gathered (`classify` and the three `try_classify_`; docs/RULES.md, "Classes").
use Rattle.std.specs.Prelude.{ℕ, zero, suc, Bool, true, false, not, ◌&&◌, List, [], ◌∷◌, map, length, ◌==◌, nat_lt, slice_index_or, slice_range}
use Rattle.std.proofs.Math.Option.{Option, none, some}
use Rattle.lr1_base.specs.repr.Meaning.{Symbol, nonterminal, terminal, is_same_symbol, Production, Table, production_at}
use Rattle.first.specs.First.{disjoint, FIRST}
use Rattle.enumerator.specs.example.Example.{Label, ExampleSymbol, symbol, epsilon, symbols, prefixes, Reduction, reductions}
use Rattle.conflict_sides.specs.declared.conflict.Conflict.{Conflict}
use Rattle.conflict_sides.specs.declared.conflict.Class.{Class}
use Rattle.conflict_sides.specs.declared.conflict.Class.TheVariants.{Naive, Ambiguity, Precedence, SuggestInline, SuggestQuestion, AmbiguousReduction, InsufficientLookahead}
use Rattle.conflict_sides.specs.conflict.Sorted.{sorted_by, Pair, first_fit}
use Rattle.trace_graph.specs.Graph.{same_symbols}

-- an example is its labels, innermost first
abbrev pub Example : Type 0
Example = List Label

-- the class and the examples that are shown with it
pub record Judged : Type 0 where
  pub class : Class
  pub action : Option Example
  pub reduce : Option Example

unfoldable pub with_both : Class → Pair Example → Judged
with_both k p = record { class = k; action = some p.action; reduce = some p.reduce }

unfoldable pub symbol_count : List Production → Example → ℕ
symbol_count ps ls = length (symbols ps ls)

unfoldable pub cursor_at : List Production → Example → ℕ
cursor_at ps ls = length (prefixes ps ls)

abbrev pub no_reduction : Reduction
no_reduction = record { start = 0; end = 0; nonterminal = 0 }

unfoldable pub reduction_at : List Production → Example → ℕ → Reduction
reduction_at ps ls k = slice_index_or (reductions ps ls) k no_reduction

unfoldable pub same_example_symbol : ExampleSymbol → ExampleSymbol → Bool
same_example_symbol (symbol x) (symbol y) = is_same_symbol x y
same_example_symbol (symbol x) epsilon = false
same_example_symbol epsilon (symbol y) = false
same_example_symbol epsilon epsilon = true

unfoldable pub same_example_symbols : List ExampleSymbol → List ExampleSymbol → Bool
same_example_symbols [] [] = true
same_example_symbols [] (y ∷ ys) = false
same_example_symbols (x ∷ xs) [] = false
same_example_symbols (x ∷ xs) (y ∷ ys) = same_example_symbol x y && same_example_symbols xs ys

-- `try_classify_ambiguity`: the same symbols and the same cursor
unfoldable pub is_same_reading : List Production → Example → Example → Bool
is_same_reading ps a r = same_example_symbols (symbols ps a) (symbols ps r) && cursor_at ps a == cursor_at ps r

-- the reduce is of `T = T S T` and the shift is of S; the terminal of the action is tested, not the token
unfoldable pub is_operator_of : Production → ℕ → Bool
is_operator_of P operand = same_symbols P.symbols (nonterminal P.nonterminal ∷ terminal operand ∷ nonterminal P.nonterminal ∷ [])

unfoldable pub ambiguity_of_shift : Production → ℕ → Pair Example → Judged
ambiguity_of_shift P operand p = elim (is_operator_of P operand) [ true ↦ with_both (Precedence (record { 0 = P.nonterminal })) p | false ↦ with_both Ambiguity p ]

-- both first reductions are to one nonterminal: the action's example, the conflict's span first
unfoldable pub ambiguity_of_reduce : List Production → Production → Production → Pair Example → Judged
ambiguity_of_reduce ps P Q p =
    elim ((reduction_at ps p.action 0).nonterminal == (reduction_at ps p.reduce 0).nonterminal) [
      | true ↦ record { class = AmbiguousReduction P.start P.end Q.start Q.end; action = some p.action; reduce = none }
      | false ↦ with_both Ambiguity p
    ]

unfoldable pub ambiguity_of : Table → ℕ → ℕ → ℕ → Pair Example → Judged
ambiguity_of T production zero operand p = ambiguity_of_shift (production_at T production) operand p
ambiguity_of T production (suc k) operand p = ambiguity_of_reduce T.productions (production_at T production) (production_at T operand) p

-- `try_classify_question`: two productions, one empty and one of one symbol
unfoldable pub optional : List Symbol → List Symbol → Option Symbol
optional [] [] = none
optional [] (x ∷ []) = some x
optional [] (x ∷ y ∷ ys) = none
optional (x ∷ []) [] = some x
optional (x ∷ []) (y ∷ ys) = none
optional (x ∷ y ∷ xs) ys = none

unfoldable pub optional_of : List (List Symbol) → Option Symbol
optional_of [] = none
optional_of (p ∷ []) = none
optional_of (p ∷ q ∷ []) = optional p q
optional_of (p ∷ q ∷ r ∷ rs) = none

-- the symbol of which a nonterminal is the optional one
unfoldable pub question_of : Table → ℕ → Option Symbol
question_of T n = optional_of (map (λ p. (production_at T p).symbols) (slice_index_or T.nonterminals n []))

unfoldable pub suggest_question : ℕ → Symbol → Class
suggest_question n (nonterminal m) = SuggestQuestion (record { 0 = n }) 0 m
suggest_question n (terminal t) = SuggestQuestion (record { 0 = n }) 1 t

-- `try_classify_inline_example`: places a to b
unfoldable pub between : ℕ → ℕ → List ExampleSymbol → List ExampleSymbol
between a b xs = slice_range xs a b

-- what can be shifted before the next hard decision
unfoldable pub shift_upcoming : List Production → Example → List ExampleSymbol
shift_upcoming ps a = between (suc (cursor_at ps a)) (reduction_at ps a 0).end (symbols ps a)

unfoldable pub reduce_upcoming : List Production → Example → List ExampleSymbol
reduce_upcoming ps r = between (reduction_at ps r 0).end (reduction_at ps r 1).end (symbols ps r)

-- at the first difference FIRST is disjoint: no terminal in both, and not both nullable; an exhausted list is a no, and so is the empty mark
unfoldable pub diverge : Table → List ExampleSymbol → List ExampleSymbol → Bool
diverge T [] ys = false
diverge T (x ∷ xs) [] = false
diverge T (epsilon ∷ xs) (y ∷ ys) = false
diverge T (symbol x ∷ xs) (epsilon ∷ ys) = false
diverge T (symbol x ∷ xs) (symbol y ∷ ys) =
    elim (is_same_symbol x y) [ true ↦ diverge T xs ys | false ↦ disjoint (FIRST T (x ∷ [])) (FIRST T (y ∷ [])) ]

-- the second reduction is the first to shift more, and its nonterminal is another
unfoldable pub inlines : Table → Example → Example → Bool
inlines T a r =
    let ps = T.productions in
    nat_lt 1 (length (reductions ps r))
    && (not ((reduction_at ps r 1).end == (reduction_at ps r 0).end)
    && (not ((reduction_at ps r 1).nonterminal == (reduction_at ps r 0).nonterminal)
    && diverge T (shift_upcoming ps a) (reduce_upcoming ps r)))

-- the first pair that inlining would help, else insufficient lookahead with the first of each
unfoldable pub inline_or : List Production → Pair Example → Option (Pair Example) → Judged
inline_or ps firsts none = with_both InsufficientLookahead firsts
inline_or ps firsts (some p) = with_both (SuggestInline (record { 0 = (reduction_at ps p.reduce 0).nonterminal })) p

unfoldable pub question_or : ℕ → Pair Example → Option Symbol → Judged → Judged
question_or n firsts none other = other
question_or n firsts (some x) other = with_both (suggest_question n x) firsts

-- where no pair is ambiguous: question and inline are for a shift alone
unfoldable pub unambiguous : Table → ℕ → ℕ → List Example → List Example → Pair Example → Judged
unambiguous T production zero as' rs firsts =
    let n = (production_at T production).nonterminal in
    question_or n firsts (question_of T n) (inline_or T.productions firsts (first_fit (inlines T) as' rs))
unambiguous T production (suc k) as' rs firsts = with_both InsufficientLookahead firsts

unfoldable pub ambiguous_or : Table → Conflict → Option (Pair Example) → Judged → Judged
ambiguous_or T c none other = other
ambiguous_or T c (some p) other = ambiguity_of T c.production.0 c.action c.operand p

-- either empty: naive. Then ambiguity, question, inline, else insufficient lookahead
unfoldable pub judge : Table → Conflict → List Example → List Example → Judged
judge T c [] rs = record { class = Naive; action = none; reduce = none }
judge T c (a ∷ as') [] = record { class = Naive; action = none; reduce = none }
judge T c (a ∷ as') (r ∷ rs) =
    ambiguous_or T c (first_fit (is_same_reading T.productions) (a ∷ as') (r ∷ rs))
    (unambiguous T c.production.0 c.action (a ∷ as') (r ∷ rs) (record { action = a; reduce = r }))

-- sides sorted by symbol count
unfoldable pub judged : Table → Conflict → List Example → List Example → Judged
judged T c as' rs = judge T c (sorted_by (symbol_count T.productions) as') (sorted_by (symbol_count T.productions) rs)
