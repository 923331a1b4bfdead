use mathlib.Core.Path.{refl, ◌∙◌}
use native.Mathlib.Omega.{arith}
use Rattle.lr1_base.proofs.repr.Packed.{words_part}
use Rattle.lr1_base.proofs.repr.Parts.{symbols_long}
use Rattle.lr1_base.proofs.repr.productions.Grammar.symbols.Goals as goal

pub slice_bounds-result-end : goal.slice_bounds-result-end
slice_bounds-result-end c = let P = c.args.self.packed in omega (arith, P.long, P.few, c.requires, c.length.ensures.short)

pub returns : goal.returns
returns c = words_part _ _ _ _ _ (c.length.ensures.is ∙ symbols_long _ _ _ c.args.self.packed c.requires) refl refl
