use Rattle.conflicts.proofs.classification.Ways.{shown-fits, shown-number, shown-nothing}
use Rattle.conflicts.proofs.classification.show.Goals as goal

pub write_example-requires : goal.write_example-requires
write_example-requires c = let P = c.requires.side_kept in record { side_kept = (P.0, (P.1.0, shown-fits _ _ _ c.in-Some.is P.1.1)); example_room_in_bounds = c.requires.example_room_in_bounds }

pub returns-in-Some : goal.returns-in-Some
returns-in-Some c = λ xs K F. shown-number _ xs _ _ _ c.in-Some.is _ (c.write_example.ensures xs K (shown-fits _ _ _ c.in-Some.is F))

pub returns-in_default : goal.returns-in_default
returns-in_default c = λ xs K F. shown-nothing _ xs _ _ c.in_default.is
