use Rattle.std.proofs.Common.{◌≡◌, ◌++◌, take, filter}
use Rattle.yacc_file.specs.declared.file.Item.{Item}
use Rattle.yacc_grammar.proofs.actions.push_alternative.Given as goal

abbrev pub invariant-loop-item : goal.invariant-loop-item
invariant-loop-item l = l.actions.items ≡ l.fn.actions.items ++ filter (λ (item : Item). item.is_action) (take l.item-index l.alternative.items.items)
