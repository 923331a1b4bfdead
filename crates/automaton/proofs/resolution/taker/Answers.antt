use Rattle.std.proofs.Common.{ℕ, sym, ◌∙◌, ap, arith, length}
use Rattle.automaton.specs.Resolutions.{takes_shift, choice_in}
use Rattle.automaton.proofs.Scans.{find_next}
use Rattle.automaton.proofs.resolution.taker.Goals as goal

pub loop-production-preserved : goal.loop-production-preserved
loop-production-preserved c =
    let i = c.loop-production.production-index in
    let e = rw c.deref-production-items.ensures.value at c.choice_for.ensures in
    sym (find_next (λ (p : ℕ). takes_shift (choice_in c.args.grammar.now c.args.used c.args.clash.now p)) c.args.clash.now.reductions.items i _
    (omega (arith, ap length c.deref-production-items.ensures.value)) (ap takes_shift (sym e) ∙ sym c.if-takes.ensures)) ∙ c.loop-production.invariant
