use Rattle.first.specs.First.{first_of}
use Rattle.first.proofs.Walk.{symbol-terminal}
use Rattle.first.proofs.FirstSets.symbol_first.Goals as goal

pub returns-in-Nonterminal : goal.returns-in-Nonterminal
unfolding first_of
returns-in-Nonterminal c = rw c.in-Nonterminal.is

pub returns-in-Terminal : goal.returns-in-Terminal
returns-in-Terminal c =
    rw c.in-Terminal.is (symbol-terminal c.args.self.now.map c.in-Terminal.terminal c.from.result.0 (rw c.in-Terminal.is at c.requires) c.from.ensures.0)
