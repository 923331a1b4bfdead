use Rattle.output_text.proofs.conflict_lines.Texts.{lines-refused, lines_class, class_shown}
use borrow.Author.Rules.{rules}
use Rattle.output_text.proofs.conflict_lines.lines_of_reading.Goals as goal

pub put_examples-requires : goal.put_examples-requires
put_examples-requires c = record { shown = class_shown c.in-Ok.is c.requires.reading_shown; at_in_bounds = search rules }

pub returns-in-Err : goal.returns-in-Err
returns-in-Err c = lines-refused c.args.number _ _ c.in-Err.is c.refused_line.ensures

pub returns-in-Ok : goal.returns-in-Ok
returns-in-Ok c = lines_class c.args.number c.args.action.now c.args.reduce.now c.in-Ok.is c.put_class-next.ensures.0 c.put_examples.ensures
