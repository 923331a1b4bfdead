use Rattle.std.proofs.Common.{◌≡◌, ℕ, List, All, rules}
use Rattle.yacc_file.specs.declared.file.Rule.{Rule}
use Rattle.yacc_grammar.proofs.LoopReads.{all_more, all_read}
use Rattle.yacc_grammar.specs.GrammarOf.{RuleIsNamed}
use Rattle.yacc_grammar.proofs.naming.are_named.Goals as goal

pub loop-rule-preserved : goal.loop-rule-preserved
loop-rule-preserved c =
    let P : Rule → Type 0 = λ x. RuleIsNamed c.args.file.now c.args.table.now.symbols.items c.args.witness.now.owners.items c.args.table.now.grammar x in
    all_more P c.args.file.now.rules.items c.deref-rule-items.result.now c.loop-rule.rule-index c.rule-item.result
    c.deref-rule-items.ensures.value c.loop-rule-test.true c.rule-item.is c.loop-rule.invariant (c.rule_is_named.ensures (search rules))

pub returns : goal.returns
returns c _ =
    let P : Rule → Type 0 = λ x. RuleIsNamed c.args.file.now c.args.table.now.symbols.items c.args.witness.now.owners.items c.args.table.now.grammar x in
    all_read P c.args.file.now.rules.items c.deref-rule-items.result.now c.loop-rule.rule-index c.deref-rule-items.ensures.value c.loop-rule-test.false c.loop-rule.invariant
