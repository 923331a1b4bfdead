-- Bytes written from a place on as far as there is room, and the bytes of a written text line by line (`text_bytes` of proofs/Texts: they are those of yacc_write).
use Rattle.std.specs.Prelude.{ℕ, zero, suc, ◌+◌, ◌≡◌, List, [], ◌∷◌, ◌++◌, length}
use Rattle.std.proofs.lemmas.List.Edits.{sets}
use Rattle.lr1_base.specs.numerals.Numeral.{numeral}
use Rattle.lr1_base.specs.repr.Lists.{below, joined}
use Rattle.lr1_base.specs.repr.Meaning.{Symbol, nonterminal, terminal, Production}

-- far from wrapping
abbrev pub place_limit : ℕ
place_limit = 65536

-- the bytes stand from place `at` on where `old` has places; `after` is the place behind them, whether there is room or not
pub record Wrote (old : List ℕ) (at : ℕ) (bytes new : List ℕ) (after : ℕ) : Type 0 where
  pub is : new ≡ sets old at bytes
  pub place : after ≡ at + length bytes

-- a space and a name
unfoldable pub name_bytes : Symbol → List ℕ
name_bytes (nonterminal n) = 32 ∷ 78 ∷ numeral n
name_bytes (terminal n) = 32 ∷ 84 ∷ numeral n

-- the names of n terminals
unfoldable pub terminal_bytes : ℕ → List ℕ
terminal_bytes n = joined (λ t. name_bytes (terminal t)) (below n)

-- `%token` and the terminals
unfoldable pub token_bytes : ℕ → List ℕ
token_bytes zero = []
token_bytes (suc n) = 37 ∷ 116 ∷ 111 ∷ 107 ∷ 101 ∷ 110 ∷ (terminal_bytes (suc n) ++ (10 ∷ []))

unfoldable pub production_bytes : Production → List ℕ
production_bytes p = (78 ∷ numeral p.nonterminal) ++ (32 ∷ 58 ∷ (joined name_bytes p.symbols ++ (32 ∷ 59 ∷ 10 ∷ [])))

unfoldable pub file_bytes : ℕ → List Production → List ℕ
file_bytes n ps = token_bytes n ++ (37 ∷ 37 ∷ 10 ∷ joined production_bytes ps)
