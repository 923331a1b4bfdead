-- What is reached from nonterminals by the first symbols of their productions: the nonterminals of
-- an LR(0) closure.
use Rattle.std.specs.Prelude.{ℕ, ◌≡◌, ◌+◌, true, false, not, Bool, List, [], ◌∷◌, Option, Some, None, slice_index_or, count_by, vec_len, Contains}
use Rattle.grammar.specs.declared.symbol.Symbol.{Symbol}
use Rattle.grammar.specs.declared.symbol.Symbol.TheVariants.{Terminal, Nonterminal}
use Rattle.grammar.specs.declared.grammar.Grammar.{Grammar}
use Rattle.automaton.specs.declared.reach.Frontier.{Frontier}
use Rattle.automaton.specs.Items.{rest_of, fresh, IsRule}

-- the nonterminal that the symbols begin with
abbrev pub leading_of : List Symbol → Option ℕ
leading_of [] = None
leading_of (Terminal t ∷ xs) = None
leading_of (Nonterminal n ∷ xs) = Some n

-- production q begins with nonterminal m
abbrev pub Leads : Grammar → ℕ → ℕ → Type 0
Leads g q m = leading_of (rest_of g (fresh q)) ≡ Some m

-- the nonterminal is reached from those of the list, in any number of steps
pub data IsReached (g : Grammar) (starts : List ℕ) : ℕ → Type 0 where
  start : {n : ℕ} → Contains starts n → IsReached g starts n
  led : {n m : ℕ} (q : ℕ) → IsReached g starts n → IsRule g q n → Leads g q m → IsReached g starts m

-- the nonterminal has a flag
abbrev pub IsMarked : List Bool → ℕ → Type 0
IsMarked seen n = slice_index_or seen n false ≡ true

-- how many are not met or wait
abbrev pub size_of : Frontier → ℕ
size_of f = count_by not f.met.items + vec_len f.waiting
