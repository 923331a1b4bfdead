use Rattle.output_text.proofs.conflict_lines.Texts.{refused-put}
use Rattle.output_text.proofs.conflict_lines.refused_line.Goals as goal

pub returns : goal.returns
returns c = refused-put c.args.number c.args.refusal c.args.place c.put_number-first.ensures.0 c.put_text-second.ensures c.put_after-third.ensures.0 c.put_after-fourth.ensures.0 c.put.ensures
