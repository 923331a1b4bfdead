use Rattle.std.proofs.Common.{refl}
use Rattle.conflict_sides.specs.conflict.Numbers.{reading_of}
use Rattle.output_text.specs.conflict_lines.Lines.{reading_in}
use Rattle.output_text.proofs.conflict_lines.in_numbers.Goals as goal

pub returns-in-Ok : goal.returns-in-Ok
unfolding reading_in reading_of
returns-in-Ok c = rw c.in-Ok.is refl

pub returns-in-Err : goal.returns-in-Err
unfolding reading_in reading_of
returns-in-Err c = rw (c.in-Err.is, c.number.ensures, c.place.ensures) refl
