-- The table that a text means (docs/YACC.md, Meaning): the file's productions and one empty state, its start and places.
use Rattle.std.specs.Prelude.{ℕ, true, false, List, [], ◌∷◌, ◌++◌, map, length, get_or, eqb}
use Rattle.lr1_base.specs.repr.Lists.{below, keep}
use Rattle.lr1_base.specs.repr.Meaning.{Symbol, nonterminal, terminal, Production, Table, no_production, no_state}
use Rattle.yacc_syntax.specs.text.Grammar.{Id}
use Rattle.yacc_reader.specs.parsed_file.Source.{Known, is_known, number_in, Alternative, Source}

unfoldable pub symbol_of : Source → Id → Symbol
symbol_of S x = elim (is_known S.nonterminals x) [ true ↦ nonterminal (number_in S.nonterminals x) | false ↦ terminal (number_in S.terminals x) ]

unfoldable pub production_of : Source → Alternative → Production
production_of S a = record { nonterminal = number_in S.nonterminals a.left; symbols = map (symbol_of S) a.ids; start = a.start; end = a.end }

unfoldable pub productions_of : Source → List Production
productions_of S = map (production_of S) S.alternatives

-- a nonterminal's productions ascend
unfoldable pub owned : List Production → ℕ → List ℕ
owned ps n = keep (λ p. eqb (get_or ps p no_production).nonterminal n) (below (length ps))

unfoldable pub table_of : Source → Table
table_of S = record {
  terminals = length S.terminals;
  nonterminals = map (owned (productions_of S)) (below (length S.nonterminals));
  productions = productions_of S;
  states = no_state ∷ [];
}

-- where each nonterminal, then each terminal, got its number
unfoldable pub places_of : Source → List ℕ
places_of S = map (λ k. k.at) S.nonterminals ++ map (λ k. k.at) S.terminals

-- the START id's nonterminal, else 0
unfoldable pub start_of : List Known → List Id → ℕ
start_of ks [] = 0
start_of ks (x ∷ xs) = number_in ks x
