use native.Mathlib.Omega.{arith}
use Rattle.lr1_base.proofs.lookahead.Words.{all_pos, all_few, all_is}
use Rattle.lr1_base.proofs.lookahead.Laws.{up_to-all}
use mathlib.Core.Path.{sym}
use Rattle.lr1_base.proofs.lookahead.TokenSet.all.Goals as goal

pub overflow_sub-result : goal.overflow_sub-result
overflow_sub-result c = all_pos c.args.terminals (omega arith)

pub returns-then-terminals : goal.returns-then-terminals
returns-then-terminals c = all_is c.args.terminals _ (all_few c.args.terminals (omega arith))

pub returns-else-terminals : goal.returns-else-terminals
returns-else-terminals c = all_is c.args.terminals _ (sym (up_to-all c.args.terminals (omega arith)))
