use mathlib.Core.Path.{refl, ◌∙◌}
use Rattle.first.proofs.Rounds.{round-start, round-more}
use Rattle.first.proofs.FirstSets.grow.Goals as goal

pub loop-production-init : goal.loop-production-init
loop-production-init c = let r = round-start c.args.self.now.terminals c.args.grammar.words.now c.args.self.now.map in (r.0, r.1, refl)

pub loop-production-preserved : goal.loop-production-preserved
loop-production-preserved c =
    let i = c.loop-production.invariant in
    let e = c.grow_one-changed.ensures in
    let r = round-more _ _ _ _ _ _ _ _ i.0 i.1 (rw (← i.2) e.0) e.1 in
    (r.0, r.1, e.2 ∙ i.2)
