-- What a table of ids holds.
use Rattle.std.specs.Prelude.{List}
use Rattle.yacc_reader.specs.parsed_file.Source.{Known}
use Rattle.yacc_reader.specs.symbol_table.Ids.{Held}
use Rattle.yacc_reader.specs.declared.symbol_table.IdTable.{IdTable}

-- the nonterminals ns and the terminals ts
abbrev pub Holds : IdTable → List Known → List Known → Type 0
Holds s ns ts = Held s.text.now s.starts.now s.pasts.now s.ix.now s.lefts.now s.tokens.now s.counts ns ts
