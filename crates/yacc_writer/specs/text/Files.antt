-- The abstract file that is written of a table, and its layout: a rule for each production.
use Rattle.std.specs.Prelude.{ℕ, zero, suc, List, [], ◌∷◌, map}
use Rattle.lr1_base.specs.repr.Lists.{up_from}
use Rattle.lr1_base.specs.repr.Meaning.{terminal, Production, Table}
use Rattle.lr1_base.specs.numerals.Numeral.{numeral}
use Rattle.yacc_syntax.specs.text.Grammar.{Rule, rule, Def, tokens, File, Layout}
use Rattle.yacc_writer.specs.text.Text.{name_of, pieces_of}

unfoldable pub rule_of : Production → Rule
rule_of p = rule 78 (numeral p.nonterminal) (map name_of p.symbols) []

unfoldable pub defs_of : ℕ → List Def
defs_of zero = []
defs_of (suc n) = tokens (name_of (terminal 0)) (map (λ t. name_of (terminal t)) (up_from 1 n)) ∷ []

-- p is the first production, ps are the others
unfoldable pub file_of : ℕ → Production → List Production → File
file_of n p ps = record { defs = defs_of n; first = rule_of p; more = map rule_of ps }

unfoldable pub layout_of : Table → Production → List Production → Layout
layout_of T p ps = record { pieces = pieces_of T; file = file_of T.terminals p ps }
