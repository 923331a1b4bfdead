use Rattle.yacc_writer.proofs.Laws.{nonterminal-put, terminal-put}
use Rattle.yacc_writer.proofs.put_symbol.Goals as goal

pub returns-in-Nonterminal : goal.returns-in-Nonterminal
returns-in-Nonterminal c = rw c.in-Nonterminal.is (nonterminal-put _ c.put-next.ensures c.put_name.ensures)

pub returns-in-Terminal : goal.returns-in-Terminal
returns-in-Terminal c = rw c.in-Terminal.is (terminal-put _ c.put-next.ensures c.put_name-in-Terminal.ensures)
