use Rattle.automaton.proofs.Spreads.{on_false_map, all_at_same}
use Rattle.automaton.proofs.closure.round.Goals as goal

pub returns-else-by_kernel-clause-kernel : goal.returns-else-by_kernel-clause-kernel
returns-else-by_kernel-clause-kernel c =
    on_false_map c.give_rules-by_rules.result
    (λ back. all_at_same c.args.grammar.now c.args.first.now c.give_rules-by_rules.ensures.keeps back c.args.kernel.now c.if-by_kernel.ensures.spread)
    c.give_rules-by_rules.ensures.same
