use mathlib.Core.Path.{sym, ◌∙◌}
use Rattle.table.proofs.Written.{reading_start, reading_step, reading_end}
use native.Mathlib.Omega.{arith}
use Rattle.table.proofs.accepted_table.AcceptedTable.read_symbols.Goals as goal

pub loop-p-init : goal.loop-p-init
loop-p-init c = reading_start _ c.args.self.accepted _ c.requires

pub read_symbols_of-requires : goal.read_symbols_of-requires
read_symbols_of-requires c = (c.loop-p.invariant.owners.long, omega (arith, c.loop-p-test.true, c.counts-p-end.ensures.productions))

pub loop-p-preserved : goal.loop-p-preserved
loop-p-preserved c = reading_step _ c.args.self.accepted _ _ _ (omega (arith, c.loop-p-test.true, c.counts-p-end.ensures.productions)) c.read_symbols_of.ensures c.loop-p.invariant

pub shape_of-grammar : goal.shape_of-grammar
shape_of-grammar c = c.loop-p.invariant.owners.long ∙ sym c.requires.long

pub returns : goal.returns
returns c = reading_end _ c.args.self.accepted _ _ (omega (arith, c.loop-p-test.false, c.counts-p-end.ensures.productions)) c.loop-p.invariant
