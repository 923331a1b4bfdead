use Rattle.lr1_base.proofs.repr.Packed.{words_long}
use Rattle.lr1_base.proofs.repr.Parts.{symbols_long}
use Rattle.lr1_base.proofs.item.Items.{sets_at, sets_end, counts_at, counts_end}
use native.Mathlib.Omega.{arith}
use Rattle.lr1_base.proofs.item.Item.symbol_sets.Goals as goal

pub returns-then-index-length : goal.returns-then-index-length
returns-then-index-length c = let w = words_long _ _ _ c.args.grammar.packed c.requires.within in let s = symbols_long _ _ _ c.args.grammar.packed c.requires.within in record { suffix_value = sets_at _ _ c.length-length.result (omega (arith, w, s, c.length-length.ensures.0)) c.if-index-length.true; suffix_value_2 = counts_at _ _ c.length-length.result _ c.length-length.ensures.0 c.if-index-length.true (omega (arith, c.if-index-length.true)) }

pub returns-else-index-length : goal.returns-else-index-length
returns-else-index-length c = record { suffix_value = sets_end _ _ _ c.length-length.ensures.0 c.if-index-length.false; suffix_value_2 = counts_end _ _ (omega (arith, c.requires.index_in_bounds, c.length-length.ensures.0, c.if-index-length.false)) }
