-- What a limit means: the refusal, or the table and the places written.
use Rattle.std.specs.Prelude.{ℕ, ◌≡◌, List, length}
use Rattle.lr1_base.specs.words.Lent.{in_front}
use Rattle.lr1_base.specs.repr.Reply.{Reply, answered, refused}
use Rattle.table_rewrite.specs.spelling.Spelled.{spell}
use Rattle.yacc_reader.specs.parsed_file.Source.{Source}
use Rattle.yacc_reader.specs.parsed_file.Meaning.{table_of, places_of}
use Rattle.yacc_reader.specs.parsed_file.Outcome.{Outcome, unchanged, answer_of}
use Rattle.yacc_reader.specs.counts.Counted.{counts_of}
use Rattle.yacc_reader.specs.declared.counts.Counts.{Counts}

-- the numbers of a source
pub record Meant (n m : ℕ) (c : Counts) : Type 0 where
  pub source : Source
  pub nonterminals : n ≡ length source.nonterminals
  pub terminals : m ≡ length source.terminals
  pub counts : c ≡ counts_of source.alternatives

unfoldable pub limited_of : Source → Reply (Unit {0}) → List ℕ → List ℕ → Outcome
limited_of S (answered tt) table places = record { answer = answer_of S; table = in_front (spell (table_of S)) table; places = in_front (places_of S) places }
limited_of S (refused n r) table places = unchanged n r table places
