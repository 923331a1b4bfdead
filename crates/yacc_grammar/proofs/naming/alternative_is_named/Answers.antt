use Rattle.std.proofs.Common.{◌≡◌, ℕ, List, All, rules}
use Rattle.yacc_file.specs.declared.file.Item.{Item}
use Rattle.yacc_grammar.proofs.LoopReads.{all_more, all_read}
use Rattle.yacc_grammar.specs.GrammarOf.{ItemIsNamed}
use Rattle.yacc_grammar.proofs.naming.alternative_is_named.Goals as goal

pub loop-item-preserved : goal.loop-item-preserved
loop-item-preserved c =
    let P : Item → Type 0 = λ x. ItemIsNamed c.args.file.now c.args.table.now.symbols.items c.args.witness.now.owners.items c.args.table.now.grammar x in
    all_more P c.args.alternative.now.items.items c.deref-item-items.result.now c.loop-item.item-index c.item-item.result
    c.deref-item-items.ensures.value c.loop-item-test.true c.item-item.is c.loop-item.invariant (c.item_is_named.ensures (search rules))

pub returns : goal.returns
returns c _ =
    let P : Item → Type 0 = λ x. ItemIsNamed c.args.file.now c.args.table.now.symbols.items c.args.witness.now.owners.items c.args.table.now.grammar x in
    all_read P c.args.alternative.now.items.items c.deref-item-items.result.now c.loop-item.item-index c.deref-item-items.ensures.value c.loop-item-test.false c.loop-item.invariant
