-- A text that nothing refuses.
use Rattle.std.specs.Prelude.{ℕ, true, false, ◌≡◌, List}
use Rattle.std.proofs.Math.Option.{none}
use Rattle.yacc_reader.specs.parsed_file.Source.{Source}
use Rattle.yacc_reader.specs.parsed_file.Outcome.{misnamed, too_many, too_long, room}

-- none of 21, 2, 5 and 17 applies
pub record Passes (S : Source) (table places : List ℕ) : Type 0 where
  pub named : misnamed S ≡ false
  pub few : too_many S ≡ false
  pub short : too_long 0 S.alternatives ≡ none
  pub roomy : room S table places ≡ true
