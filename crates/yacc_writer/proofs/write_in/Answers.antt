use mathlib.Core.Path.{sym, ◌∙◌}
use Rattle.yacc_writer.proofs.Turns.{written_disordered}
use Rattle.yacc_writer.proofs.write_in.Goals as goal

pub write_ordered-requires : goal.write_ordered-requires
write_ordered-requires c = sym c.ascends.ensures ∙ c.if-ascends.true

pub returns-then-ascends : goal.returns-then-ascends
returns-then-ascends c = c.write_ordered.ensures

pub returns : goal.returns
returns c = written_disordered _ _ (sym c.ascends.ensures ∙ c.if-ascends.false)
