use Rattle.automaton.proofs.Covers.{covers}
use Rattle.automaton.proofs.closure.close.Goals as goal

pub returns-clause-covers : goal.returns-clause-covers
returns-clause-covers c i t d =
    let inv = c.loop.invariant in
    covers c.args.grammar.now c.args.first.now c.args.alternatives.now c.round.new.table c.in_ok-entries.entries.items c.in_ok-starts.starts.items c.in_ok-reached.reached.items
    c.requires.first c.requires.alternatives (rw c.as_slice-in-loop-2.ensures.value at c.loop-test.ensures.kernel) (rw c.as_slice-in-loop.ensures.value at c.loop-test.ensures.rules)
    c.args.tokens.now c.args.kernel.now
    (λ j u h. let k = inv.lists j u h in record { entry = k.entry; listed = k.listed; item = k.item; has = c.round.ensures.keeps k.entry.tokens u k.has })
    c.in_ok-starts.ensures.exact (rw c.as_slice.ensures.value at c.in_ok-reached.ensures.exact)
    c.list_rules.new.entries.items c.in_ok-list_rules.ensures.keeps (rw c.as_slice-2.ensures.value at c.in_ok-list_rules.ensures.adds) i t d
