use Rattle.std.proofs.Common.{◌∙◌, arith}
use Rattle.automaton.proofs.Used.{used_more}
use Rattle.automaton.proofs.usage.used_terminals.Goals as goal

pub loop-resolved-preserved : goal.loop-resolved-preserved
loop-resolved-preserved c =
    let inv = c.loop-resolved.invariant in
    let v = c.mark_uses.ensures in
    record {
      len = v.len ∙ inv.len;
      exact = λ t l. used_more c.args.grammar.now c.args.conflicts.now c.loop-resolved.resolved-index _ _ _ t (omega arith) (v.exact t (omega (arith, l, inv.len))) (inv.exact t l);
    }
