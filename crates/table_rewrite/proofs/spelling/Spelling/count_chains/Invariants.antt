use Rattle.table_rewrite.specs.spelling.Spelled.{size_of}
use Rattle.table_rewrite.specs.spelling.Grown.{chains_of}
use Rattle.table_rewrite.proofs.spelling.Counting.{Totalling}
use Rattle.table_rewrite.proofs.spelling.Spelling.count_chains.Given as goal

abbrev pub invariant-loop-holder : goal.invariant-loop-holder
invariant-loop-holder l = Totalling l.self.table.words.now (size_of (chains_of l.self.table.words.now l.region.first l.region.past l.region.k)) l.most l.region.past l.region.k l.holder l.total
