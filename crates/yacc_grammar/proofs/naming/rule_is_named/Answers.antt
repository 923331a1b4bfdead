use Rattle.std.proofs.Common.{◌≡◌, ℕ, List, All, rules}
use Rattle.yacc_file.specs.declared.file.Alternative.{Alternative}
use Rattle.yacc_grammar.proofs.LoopReads.{all_more, all_read}
use Rattle.yacc_grammar.specs.GrammarOf.{AlternativeIsNamed}
use Rattle.yacc_grammar.proofs.naming.rule_is_named.Goals as goal

pub loop-alternative-preserved : goal.loop-alternative-preserved
loop-alternative-preserved c =
    let P : Alternative → Type 0 = λ x. AlternativeIsNamed c.args.file.now c.args.table.now.symbols.items c.args.witness.now.owners.items c.args.table.now.grammar x in
    all_more P c.args.rule.now.alternatives.items c.deref-alternative-items.result.now c.loop-alternative.alternative-index c.alternative-item.result
    c.deref-alternative-items.ensures.value c.loop-alternative-test.true c.alternative-item.is c.loop-alternative.invariant (c.alternative_is_named.ensures (search rules))

pub returns-then-is_named : goal.returns-then-is_named
returns-then-is_named c h =
    let P : Alternative → Type 0 = λ x. AlternativeIsNamed c.args.file.now c.args.table.now.symbols.items c.args.witness.now.owners.items c.args.table.now.grammar x in
    record {
      left = c.is_named.ensures c.if-is_named.true;
      nonterminal = c.is_nonterminal.ensures h;
      alternatives = all_read P c.args.rule.now.alternatives.items c.deref-alternative-items.result.now c.loop-alternative.alternative-index c.deref-alternative-items.ensures.value c.loop-alternative-test.false c.loop-alternative.invariant;
    }
