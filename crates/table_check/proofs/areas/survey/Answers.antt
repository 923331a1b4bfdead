use Rattle.table_check.proofs.Sizes.{whole_of, surveyed}
use native.Mathlib.Omega.{arith}
use Rattle.table_check.proofs.areas.survey.Goals as goal

pub of-counts-requires : goal.of-counts-requires
of-counts-requires c = let w = whole_of _ c.requires.words in omega arith

pub returns : goal.returns
returns c = let C = c.of-counts.ensures.read in
    rw (c.states_at.ensures, c.productions_at.ensures, c.loose_at.ensures) (surveyed c.requires (record { nonterminals = C.0; terminals = C.1.0; states = C.1.1.0; productions = C.1.1.1 }))
