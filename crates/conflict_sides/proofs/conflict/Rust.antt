-- The filter, the inline test and tracing's question, on answers of terminals and yes or no, are the Rust's on its sets, for every table: no class, example, count
-- or listing depends on how a nullable list is marked.
use Rattle.std.proofs.Common.{◌≡◌, ℕ, List, [], ◌∷◌, refl}
use Rattle.lr1_base.specs.repr.Meaning.{Symbol, is_same_symbol, Table}
use Rattle.lr1_base.proofs.repr.Lists.{cases}
use Rattle.first.specs.First.{FIRST, sets_of_first, nullable}
use Rattle.first.specs.Rust.{rust_nullable}
use Rattle.first.proofs.Rust.{rust_nullable_lem, rust_meets_lem, rust_disjoint_lem}
use Rattle.enumerator.specs.example.Example.{Label, ExampleSymbol, symbol, epsilon, ahead, meets}
use Rattle.conflict_sides.specs.conflict.Judge.{diverge}
use Rattle.conflict_sides.specs.conflict.Rust.{rust_filter, rust_diverge}

module _ (T : Table) where
  pub filter_rust : (lookahead : ℕ) (ls : List Label) → meets T.terminals (sets_of_first T.terminals T.productions) T.productions lookahead ls ≡ rust_filter T lookahead ls
  unfolding meets rust_filter FIRST
  filter_rust lookahead ls = rust_meets_lem T (ahead T.productions ls) lookahead

  pub inline_rust : (xs ys : List ExampleSymbol) → diverge T xs ys ≡ rust_diverge T xs ys
  unfolding diverge rust_diverge
  inline_rust [] ys = refl
  inline_rust (x ∷ xs) [] = refl
  inline_rust (epsilon ∷ xs) (y ∷ ys) = refl
  inline_rust (symbol x ∷ xs) (epsilon ∷ ys) = refl
  inline_rust (symbol x ∷ xs) (symbol y ∷ ys) =
      let rest = inline_rust xs ys in
      cases (is_same_symbol x y)
      (λ q. rw (q, diverge, rust_diverge) rest)
      (λ q. rw (q, diverge, rust_diverge) (rust_disjoint_lem T (x ∷ []) (y ∷ [])))

  pub tracing_rust : (xs : List Symbol) → nullable T xs ≡ rust_nullable T xs
  tracing_rust xs = rust_nullable_lem T xs
