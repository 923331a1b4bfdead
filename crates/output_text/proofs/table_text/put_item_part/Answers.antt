use mathlib.Core.Path.{ap, ◌∙◌}
use lib.ListN.{length}
use native.Mathlib.Omega.{arith}
use Rattle.lr1_base.proofs.repr.Packed.{words_long}
use Rattle.output_text.proofs.table_text.Texts.{item-put}
use Rattle.output_text.proofs.table_text.put_item_part.Goals as goal

pub put_rule-requires-clause-i_in_bounds : goal.put_rule-requires-clause-i_in_bounds
put_rule-requires-clause-i_in_bounds c =
    let I = c.requires.item in
    let s = c.args.grammar.packed.short _ I.production in
    let l = ap length c.symbols.ensures ∙ words_long _ _ _ c.args.grammar.packed I.production in
    (omega (arith, l, I.index), omega (arith, s, l))

pub returns : goal.returns
returns c = (item-put _ _ _ c.owner.ensures c.symbols.ensures c.put_rule.ensures.0, c.put_rule.ensures.1)
