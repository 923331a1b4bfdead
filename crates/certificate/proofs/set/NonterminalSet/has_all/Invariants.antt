use Rattle.std.proofs.Common.{All, take}
use Rattle.certificate.specs.Sets.{SymbolIn}
use Rattle.certificate.proofs.set.NonterminalSet.has_all.Given as goal

abbrev pub invariant-loop-symbol : goal.invariant-loop-symbol
invariant-loop-symbol l = All (SymbolIn l.self) (take l.symbol-index l.symbols)
