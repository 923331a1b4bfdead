use Rattle.std.proofs.Common.{◌≡◌, arith}
use Rattle.table.specs.Words.{records}
use Rattle.table_check.proofs.scan.scan_loose.Goals as goal

pub loop-r-init : goal.loop-r-init
loop-r-init g c = let A = c.args.gathered.surveyed.of in (rw A.loose_at c.requires.reaching, rw A.loose_at c.requires.best)

pub loop-r-preserved : goal.loop-r-preserved
loop-r-preserved g c = (c.pass-m.ensures.reaching, c.lower-best.ensures _ c.pass-m.ensures.value c.loop-r.invariant.1)

pub returns : goal.returns
returns g c = let A = c.args.gathered.surveyed.of in let e : c.loop-r.r ≡ records c.args.gathered.surveyed.words.now = omega (arith, A.records, A.room, A.loose_at) in rw e at c.loop-r.invariant.1
