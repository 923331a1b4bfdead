use Rattle.std.proofs.Common.{sym}
use Rattle.lr1_base.proofs.item.Items.{shifts_none, shifts_this, shifts_no_terminal}
use Rattle.lr1_base.proofs.item.Item.can_shift_nonterminal.Goals as goal

pub returns-in-Some-Nonterminal : goal.returns-in-Some-Nonterminal
returns-in-Some-Nonterminal c = sym (shifts_this _ _ _ _ _ (rw c.in-Some-Nonterminal.field-0-is at c.in-Some-Nonterminal.ensures).0)

pub returns-in-Some-Terminal : goal.returns-in-Some-Terminal
returns-in-Some-Terminal c = sym (shifts_no_terminal _ _ _ _ _ (rw c.in-Some-Terminal.field-0-is at c.in-Some-Terminal.ensures).0)

pub returns-in-None : goal.returns-in-None
returns-in-None c = sym (shifts_none _ _ _ c.in-None.ensures)
