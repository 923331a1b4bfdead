use Prim.Native.Nat.{◌+◌}
use Rattle.table_rewrite.specs.spelling.Spelled.{size_of}
use Rattle.table_rewrite.specs.spelling.Grown.{chains_of}
use Rattle.table_rewrite.proofs.spelling.Writing.{Walk}
use Rattle.table_rewrite.proofs.spelling.Spelling.write_chains.Given as goal

abbrev pub invariant-loop-holder : goal.invariant-loop-holder
invariant-loop-holder l = Walk l.self.table.words.now l.initial.out l.out l.begin (l.begin + size_of (chains_of l.self.table.words.now l.region.first l.region.past l.region.k)) l.region.past l.region.k l.holder l.at
