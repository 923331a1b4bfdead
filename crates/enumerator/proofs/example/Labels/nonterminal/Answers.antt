use Rattle.std.proofs.Common.{◌∙◌}
use Rattle.enumerator.proofs.example.LabelList.{label_nonterminal}
use Rattle.enumerator.proofs.example.Labels.nonterminal.Goals as goal

pub returns : goal.returns
returns c = (c.word.ensures.0 ∙ label_nonterminal _ _ c.requires, c.word.ensures.1)
