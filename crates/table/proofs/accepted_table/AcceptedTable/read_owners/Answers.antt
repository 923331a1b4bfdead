use mathlib.Core.Path.{sym, ◌∙◌}
use Rattle.table.proofs.Written.{owners_start, owners_step, owners_end}
use native.Mathlib.Omega.{arith}
use Rattle.table.proofs.accepted_table.AcceptedTable.read_owners.Goals as goal

pub loop-n-init : goal.loop-n-init
loop-n-init c = owners_start _ c.args.self.accepted _ c.requires

pub read_owner-requires : goal.read_owner-requires
read_owner-requires c = (c.loop-n.invariant.long, omega (arith, c.loop-n-test.true, c.counts-n-end.ensures.nonterminals))

pub loop-n-preserved : goal.loop-n-preserved
loop-n-preserved c = owners_step _ c.args.self.accepted _ _ _ (omega (arith, c.loop-n-test.true, c.counts-n-end.ensures.nonterminals)) c.read_owner.ensures c.loop-n.invariant

pub shape_of-grammar : goal.shape_of-grammar
shape_of-grammar c = c.loop-n.invariant.long ∙ sym c.requires

pub returns : goal.returns
returns c = owners_end _ c.args.self.accepted _ _ (omega (arith, c.loop-n-test.false, c.counts-n-end.ensures.nonterminals)) c.loop-n.invariant
