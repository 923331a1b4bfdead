use Rattle.std.proofs.Common.{ℕ, ◌+◌, ap, ◌∙◌, arith}
use Rattle.lr1_base.specs.repr.Sizes.{nonterminal_limit}
use Rattle.trace_graph.proofs.Fits.{number-nonterminal, number-item}
use Rattle.trace_graph.proofs.node_number.Goals as goal

pub returns-then-node-eq0 : goal.returns-then-node-eq0
returns-then-node-eq0 c = (number-nonterminal c.args.node c.if-node-eq0.true, omega (arith, c.requires.number))

pub returns-else-node-eq0 : goal.returns-else-node-eq0
returns-else-node-eq0 c = (ap (λ (n : ℕ). nonterminal_limit + n) c.place.ensures.is ∙ number-item c.args.node c.if-node-eq0.false, omega (arith, c.place.ensures.within))
