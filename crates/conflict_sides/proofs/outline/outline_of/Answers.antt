use Rattle.std.proofs.Common.{◌∙◌}
use Rattle.conflict_sides.proofs.outline.Kept.{outline_made}
use Rattle.conflict_sides.proofs.outline.outline_of.Goals as goal

pub returns : goal.returns
returns c = outline_made c.args.labels.grammar.words.now c.args.labels.grammar.productions c.args.labels.grammar.packed c.args.labels.words.now c.args.labels.fit c.args.shift _ _ _ _ c.symbol_count.ensures.0 c.print.ensures c.nonterminal.ensures.0 (c.word_of.ensures.0 ∙ c.kept_item.ensures.is) c.word_of.ensures.1
