use Rattle.std.proofs.Common.{◌≡◌, arith}
use Rattle.table.specs.Words.{loose}
use Rattle.table_check.proofs.FirstRow.{best_start}
use Rattle.table_check.proofs.scan.scan_areas.Goals as goal

pub loop-r-init : goal.loop-r-init
loop-r-init c = best_start _

pub loop-r-preserved : goal.loop-r-preserved
loop-r-preserved c = c.lower-best.ensures _ c.area_fault-m.ensures c.loop-r.invariant

pub returns : goal.returns
returns c = let A = c.args.gathered.surveyed.of in let e : c.loop-r.r ≡ loose c.args.gathered.surveyed.words.now = omega (arith, A.loose_at) in rw e at c.loop-r.invariant
