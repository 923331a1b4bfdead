-- Words in which no ids are entered yet.
use Rattle.std.specs.Prelude.{ℕ, ◌≤◌, List, length}
use Rattle.yacc_syntax.specs.text.Grammar.{text_limit}
use Rattle.yacc_reader.specs.symbol_table.Ids.{Fresh}
use Rattle.yacc_reader.specs.declared.Room.{Room}

-- of any text
abbrev pub IsFresh : Room → Type 0
IsFresh r = (t : List ℕ) → length t ≤ text_limit → Fresh t r.starts r.pasts r.ix r.lefts r.tokens
