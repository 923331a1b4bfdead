use Rattle.lr1_base.proofs.item.Items.{shifts_none, shifts_this, shifts_no_terminal}
use Rattle.trace.proofs.nonterminal_at.Goals as goal

pub returns-in-Some-Nonterminal : goal.returns-in-Some-Nonterminal
returns-in-Some-Nonterminal c = let e = rw c.in-Some-Nonterminal.field-0-is at c.in-Some-Nonterminal.ensures in (e.1, λ n. shifts_this _ _ n _ _ e.0)

pub returns-in-Some-Terminal : goal.returns-in-Some-Terminal
returns-in-Some-Terminal c = λ n. shifts_no_terminal _ _ n _ _ (rw c.in-Some-Terminal.field-0-is at c.in-Some-Terminal.ensures).0

pub returns-in-None : goal.returns-in-None
returns-in-None c = λ n. shifts_none _ _ n c.in-None.ensures
