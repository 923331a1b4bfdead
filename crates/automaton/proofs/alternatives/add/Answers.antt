use Rattle.std.proofs.Common.{arith}
use Rattle.automaton.proofs.Ruled.{added}
use Rattle.automaton.proofs.alternatives.add.Goals as goal

pub returns-clause-ok : goal.returns-clause-ok
returns-clause-ok c =
    added c.args.lists.now.items c.args.nonterminal c.args.production _ c.push.new.self (omega arith) c.index_mut-list.ensures.value c.in_ok-push.ensures.items
