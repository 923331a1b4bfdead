use Rattle.std.proofs.Common.{◌∙◌, ne_eqb}
use Rattle.trace.proofs.edge_codes.Least.{begins, same_not, same_label}
use Rattle.trace.proofs.edge_codes.same_production.Goals as goal

pub returns-else-owner : goal.returns-else-owner
returns-else-owner c = ne_eqb _ _ c.if-owner.false ∙ same_not c.args.grammar.words.now c.args.grammar.productions c.args.p c.args.q _ _ c.requires.0 c.requires.1 c.owner.ensures c.owner-2.ensures c.if-owner.false

pub same_label-requires : goal.same_label-requires
same_label-requires c = (begins c.args.grammar.words.now c.args.grammar.productions c.args.p c.requires.0, begins c.args.grammar.words.now c.args.grammar.productions c.args.q c.requires.1)

pub returns-then-owner : goal.returns-then-owner
returns-then-owner c = c.same_label.ensures ∙ same_label c.args.grammar.words.now c.args.grammar.productions c.args.p c.args.q _ _ c.requires.0 c.requires.1 c.owner.ensures c.owner-2.ensures c.if-owner.true
