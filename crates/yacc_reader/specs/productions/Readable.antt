-- What the refusals before 17 leave of a text (docs/YACC.md, Refusals).
use Rattle.std.specs.Prelude.{◌≤◌, true, false, ◌≡◌, length}
use Rattle.std.proofs.Math.Option.{none}
use Rattle.lr1_base.specs.repr.Meaning.{All}
use Rattle.yacc_reader.specs.parsed_file.Source.{is_known, Alternative, Source}
use Rattle.yacc_reader.specs.parsed_file.Outcome.{misnamed, too_many, too_long}

-- a source that 21, 2 and 5 do not refuse
pub record Readable (S : Source) : Type 0 where
  pub named : misnamed S ≡ false
  pub few : too_many S ≡ false
  pub short : too_long 0 S.alternatives ≡ none

-- one that is a text's: its left sides are nonterminals, and it has a rule
pub record Whole (S : Source) : Type 0 where
  pub readable : Readable S
  pub lefts : All (λ (a : Alternative). is_known S.nonterminals a.left ≡ true) S.alternatives
  pub some_one : 1 ≤ length S.alternatives
