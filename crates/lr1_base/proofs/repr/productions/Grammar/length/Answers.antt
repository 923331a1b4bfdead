use mathlib.Core.Path.{sym, ◌∙◌}
use Rattle.lr1_base.proofs.repr.Parts.{symbols_long}
use Rattle.lr1_base.proofs.repr.productions.Grammar.length.Goals as goal

pub returns : goal.returns
returns c = let P = c.args.self.packed in record {
  is = c.word.ensures.0 ∙ sym (symbols_long _ _ _ P c.requires);
  short = rw c.word.ensures.0 (P.short _ c.requires);
}
