use mathlib.Core.Path.{ap, sym, ◌∙◌}
use Prim.Native.Nat.{ℕ}
use lib.ListN.{length, length-replicate}
use Rattle.table.proofs.Accepted.{accepts}
use Rattle.state_graph.specs.Hits.{hit_words}
use Rattle.state_graph.proofs.Hits.{sweep_start, sweep_hit, sweep_miss, sweep_done}
use native.Mathlib.Omega.{arith}
use Rattle.state_graph.proofs.Step.sweep.Goals as goal

pub loop-r-init : goal.loop-r-init
loop-r-init c = rw c.records-r.ensures.is (sweep_start c.args.self.table.words.now c.args.self.table.accepted c.args.self.kind c.args.self.number c.args.self.set.low c.args.self.set.high c.args.hits.now c.requires)

pub hit_now-requires : goal.hit_now-requires
hit_now-requires c = let A = accepts c.args.self.table.words.now c.args.self.table.accepted in let w = c.loop-r.invariant.within in (A.few_records, A.words, omega (arith, c.loop-r-test.true), c.loop-r.invariant.long)

pub put-requires : goal.put-requires
put-requires c = let A = accepts c.args.self.table.words.now c.args.self.table.accepted in let w = c.loop-r.invariant.within in omega (arith, c.loop-r-test.true, A.few_records, c.loop-r.invariant.long)

pub loop-r-preserved-then-hit_now : goal.loop-r-preserved-then-hit_now
loop-r-preserved-then-hit_now c = sweep_hit c.args.self.table.words.now c.args.self.table.accepted c.args.self.kind c.args.self.number c.args.self.set.low c.args.self.set.high c.args.self.symbol (omega (arith, c.well_formed)) _ _ c.loop-r.invariant c.loop-r-test.true _
    (sym c.hit_now.ensures ∙ c.if-hit_now.true) c.put.ensures

pub loop-r-preserved : goal.loop-r-preserved
loop-r-preserved c = sweep_miss c.args.self.table.words.now c.args.self.table.accepted c.args.self.kind c.args.self.number c.args.self.set.low c.args.self.set.high c.args.self.symbol (omega (arith, c.well_formed)) _ _ c.loop-r.invariant c.loop-r-test.true
    (sym c.hit_now.ensures ∙ c.if-hit_now.false)

pub shape_of-hits : goal.shape_of-hits
shape_of-hits c = c.loop-r.invariant.long ∙ sym (ap length c.requires ∙ length-replicate {A = ℕ} hit_words 0)

pub returns : goal.returns
returns c = sweep_done c.args.self.table.words.now c.args.self.table.accepted c.args.self.kind c.args.self.number c.args.self.set.low c.args.self.set.high _ _ c.loop-r.invariant (omega (arith, c.loop-r-test.false))
