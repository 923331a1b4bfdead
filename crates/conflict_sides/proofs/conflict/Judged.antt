-- Laws of judging (specs/conflict/Judge), one for each condition that is the Rust's (docs/RULES.md, "Classes"): precedence, ambiguous reduction, and the inline test's zip.
use Rattle.std.proofs.Common.{◌≡◌, ℕ, suc, true, false, eqb, List, [], ◌∷◌, ◌++◌, refl, ◌∙◌, eq-eqb, ne_eqb}
use mathlib.Core.Bool.{and-false}
use mathlib.Core.Option.{none, some}
use Rattle.lr1_base.specs.repr.Meaning.{Symbol, nonterminal, terminal, is_same_symbol, Production, Table, production_at}
use Rattle.lr1_base.proofs.repr.SameSymbol.{same_refl}
use Rattle.lr1_base.proofs.repr.Lists.{cases}
use Rattle.lr1_base.specs.lookahead.Tokens.{meet}
use Rattle.first.specs.First.{disjoint, FIRST, nullable}
use Rattle.enumerator.specs.example.Example.{ExampleSymbol, symbol, epsilon}
use Rattle.conflict_sides.specs.declared.conflict.Class.TheVariants.{Ambiguity, Precedence, AmbiguousReduction}
use Rattle.conflict_sides.specs.conflict.Sorted.{Pair}
use Rattle.conflict_sides.specs.conflict.Judge.{Example, with_both, reduction_at, is_operator_of, ambiguity_of_shift, ambiguity_of_reduce, ambiguity_of, diverge}
use Rattle.trace_graph.proofs.Labels.{symbols_equal, symbols_refl}
use Rattle.trace_graph.specs.Graph.{same_symbols}

-- two lists of symbols are the same if the test says so, and only then

-- `T = T S T`, S the terminal of the action
abbrev pub operator_of : ℕ → ℕ → List Symbol
operator_of n s = nonterminal n ∷ terminal s ∷ nonterminal n ∷ []

module _ (T : Table) (production operand : ℕ) (p : Pair Example) where
  abbrev reduced : Production
  reduced = production_at T production

  pub is_precedence : reduced.symbols ≡ operator_of reduced.nonterminal operand → ambiguity_of T production 0 operand p ≡ with_both (Precedence (record { 0 = reduced.nonterminal })) p
  unfolding ambiguity_of ambiguity_of_shift is_operator_of
  is_precedence e =
      let b : same_symbols reduced.symbols (operator_of reduced.nonterminal operand) ≡ true = rw e (symbols_refl (operator_of reduced.nonterminal operand)) in
      rw (b, ambiguity_of_shift)

  pub not_precedence : (reduced.symbols ≡ operator_of reduced.nonterminal operand → ⊥) → ambiguity_of T production 0 operand p ≡ with_both Ambiguity p
  unfolding ambiguity_of ambiguity_of_shift is_operator_of
  not_precedence ne =
      let b : same_symbols reduced.symbols (operator_of reduced.nonterminal operand) ≡ false =
      cases (same_symbols reduced.symbols (operator_of reduced.nonterminal operand)) (λ e. absurd (ne (symbols_equal reduced.symbols (operator_of reduced.nonterminal operand) e))) (λ e. e) in
      rw (b, ambiguity_of_shift)

  -- the conflict's span first, then the action's; the action's example alone
  pub ambiguous_reduction : (k : ℕ) → (reduction_at T.productions p.action 0).nonterminal ≡ (reduction_at T.productions p.reduce 0).nonterminal
      → ambiguity_of T production (suc k) operand p
      ≡ record { class = AmbiguousReduction reduced.start reduced.end (production_at T operand).start (production_at T operand).end; action = some p.action; reduce = none }
  unfolding ambiguity_of ambiguity_of_reduce
  ambiguous_reduction k e = rw (eq-eqb (reduction_at T.productions p.action 0).nonterminal (reduction_at T.productions p.reduce 0).nonterminal e, ambiguity_of_reduce)

  pub no_ambiguous_reduction : (k : ℕ) → ((reduction_at T.productions p.action 0).nonterminal ≡ (reduction_at T.productions p.reduce 0).nonterminal → ⊥)
      → ambiguity_of T production (suc k) operand p ≡ with_both Ambiguity p
  unfolding ambiguity_of ambiguity_of_reduce
  no_ambiguous_reduction k ne = rw (ne_eqb (reduction_at T.productions p.action 0).nonterminal (reduction_at T.productions p.reduce 0).nonterminal ne, ambiguity_of_reduce)

-- the inline test: a beginning is a no, whichever is exhausted
module _ (T : Table) where
  diverge-alike : (x : Symbol) (xs ys : List ExampleSymbol) → diverge T (symbol x ∷ xs) (symbol x ∷ ys) ≡ diverge T xs ys
  unfolding diverge
  diverge-alike x xs ys = rw (same_refl x, diverge)

  pub exhausted_first : (xs ys : List ExampleSymbol) → diverge T xs (xs ++ ys) ≡ false
  unfolding diverge
  exhausted_first [] ys = refl
  exhausted_first (epsilon ∷ xs) ys = refl
  exhausted_first (symbol x ∷ xs) ys = diverge-alike x xs (xs ++ ys) ∙ exhausted_first xs ys

  pub exhausted_second : (xs ys : List ExampleSymbol) → diverge T (xs ++ ys) xs ≡ false
  unfolding diverge
  exhausted_second [] [] = refl
  exhausted_second [] (y ∷ ys) = refl
  exhausted_second (epsilon ∷ xs) ys = refl
  exhausted_second (symbol x ∷ xs) ys = diverge-alike x (xs ++ ys) xs ∙ exhausted_second xs ys

  -- at the first difference the FIRST sets decide
  pub differ_first : (x y : Symbol) (xs ys : List ExampleSymbol) → is_same_symbol x y ≡ false → diverge T (symbol x ∷ xs) (symbol y ∷ ys) ≡ disjoint (FIRST T (x ∷ [])) (FIRST T (y ∷ []))
  unfolding diverge
  differ_first x y xs ys e = rw (e, diverge)

  -- two nullable symbols are not disjoint
  pub nullable_no : (x y : Symbol) (xs ys : List ExampleSymbol) → is_same_symbol x y ≡ false → nullable T (x ∷ []) ≡ true → nullable T (y ∷ []) ≡ true → diverge T (symbol x ∷ xs) (symbol y ∷ ys) ≡ false
  unfolding nullable disjoint
  nullable_no x y xs ys e a b = differ_first x y xs ys e ∙ rw (a, b) (and-false (eqb (meet (FIRST T (x ∷ [])).tokens.0 (FIRST T (y ∷ [])).tokens.0) 0))
