-- The filter and the inline test as the Rust has them, over its sets with end in them (specs/conflict/Rust of first).
use Rattle.std.specs.Prelude.{ℕ, Bool, true, false, List, [], ◌∷◌}
use Rattle.lr1_base.specs.repr.Meaning.{is_same_symbol, Table}
use Rattle.first.specs.Rust.{rust_meets, rust_disjoint}
use Rattle.enumerator.specs.example.Example.{Label, ExampleSymbol, symbol, epsilon, ahead}

-- `first0` of the example meets the lookahead
unfoldable pub rust_filter : Table → ℕ → List Label → Bool
rust_filter T lookahead ls = rust_meets T (ahead T.productions ls) lookahead

-- at the first difference the FIRST sets are disjoint, end counting on both sides
unfoldable pub rust_diverge : Table → List ExampleSymbol → List ExampleSymbol → Bool
rust_diverge T [] ys = false
rust_diverge T (x ∷ xs) [] = false
rust_diverge T (epsilon ∷ xs) (y ∷ ys) = false
rust_diverge T (symbol x ∷ xs) (epsilon ∷ ys) = false
rust_diverge T (symbol x ∷ xs) (symbol y ∷ ys) = elim (is_same_symbol x y) [ true ↦ rust_diverge T xs ys | false ↦ rust_disjoint T (x ∷ []) (y ∷ []) ]
