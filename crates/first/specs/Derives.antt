-- Derivation of sentential forms (Aho, Sethi, Ullman), from the productions alone.
use Rattle.std.specs.Prelude.{◌≡◌}
use mathlib.Core.List.{List, ◌∷◌, ◌++◌, Memᴰ}
use Rattle.lr1_base.specs.repr.Meaning.{Symbol, nonterminal, Production}

-- xs derives ys: in no step, or by one step that puts a production's symbols in the place of its nonterminal and then further
pub data Derives (ps : List Production) : List Symbol → List Symbol → Type 0 where
  done : {xs : List Symbol} → Derives ps xs xs
  step : (us vs : List Symbol) (p : Production) {xs ys : List Symbol} → Memᴰ p ps → xs ≡ us ++ (nonterminal p.nonterminal ∷ vs)
      → Derives ps (us ++ (p.symbols ++ vs)) ys → Derives ps xs ys
