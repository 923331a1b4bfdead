use Rattle.output_text.proofs.conflict_lines.lines.Goals as goal

pub lines_of_reading-requires : goal.lines_of_reading-requires
lines_of_reading-requires c = record { reading_shown = rw c.in_numbers.ensures c.requires.reading_shown; in_bounds = c.requires.in_bounds }

pub returns : goal.returns
returns c = rw c.in_numbers.ensures at c.lines_of_reading.ensures
