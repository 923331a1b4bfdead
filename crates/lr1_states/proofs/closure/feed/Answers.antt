use Rattle.lr1_base.specs.repr.Packed.{production_in}
use Rattle.lr1_states.proofs.closure.Grammar.{suffix-fits}
use Rattle.lr1_states.proofs.closure.Fed.{feed-none, feed_end, feed_terminal, feed-step}
use Rattle.lr1_states.proofs.closure.feed.Goals as goal

pub returns-then-set-eq0 : goal.returns-then-set-eq0
returns-then-set-eq0 c = λ T G. feed-none T _ _ _ c.if-set-eq0.true

pub first1-more-requires : goal.first1-more-requires
first1-more-requires c = rw c.suffix.ensures.0 (suffix-fits _ c.args.grammar.productions _ c.args.item.index c.args.grammar.packed c.requires)

pub returns-in-Some-Nonterminal : goal.returns-in-Some-Nonterminal
returns-in-Some-Nonterminal c = λ T G. feed-step T _ _ _ _ _ _ _ _ _ _ _ _ G c.if-set-eq0.false (rw c.in-Some-Nonterminal.field-0-is at c.in-Some-Nonterminal.ensures).0 c.suffix.ensures.1 c.first1-more.ensures c.union.ensures.is

pub returns-in-Some-Terminal : goal.returns-in-Some-Terminal
unfolding production_in
returns-in-Some-Terminal c = λ T G. feed_terminal T _ _ _ _ _ (rw c.in-Some-Terminal.field-0-is at c.in-Some-Terminal.ensures).0

pub returns-in-None : goal.returns-in-None
unfolding production_in
returns-in-None c = λ T G. feed_end T _ _ _ c.in-None.ensures
