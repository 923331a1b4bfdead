-- The alternatives of an abstract file, in text order.
use Rattle.std.specs.Prelude.{List, ◌∷◌, ◌++◌, map}
use Rattle.lr1_base.specs.repr.Lists.{joined}
use Rattle.yacc_syntax.specs.text.Grammar.{Id, named, Rule, rule, File}
use Rattle.yacc_reader.specs.parsed_file.Source.{Alternative}

-- an alternative without its span
pub record Bare : Type 0 where
  pub left : Id
  pub ids : List Id

abbrev pub bare_of : Alternative → Bare
bare_of a = record { left = a.left; ids = a.ids }

unfoldable pub rule_bares : Rule → List Bare
rule_bares (rule n ns b cs) = record { left = named n ns; ids = b } ∷ map (λ c. record { left = named n ns; ids = c }) cs

unfoldable pub file_bares : File → List Bare
file_bares f = rule_bares f.first ++ joined rule_bares f.more
