use Rattle.table.specs.Decoded.{meaning}
use Rattle.table.proofs.Decoding.{fits}
use Rattle.state_graph.proofs.Steps.{traced}
use Rattle.trace.proofs.Begin.{item-words, prefix-listed, found_is}
use Rattle.trace.proofs.reduce.begins.Goals as goal

pub prefix-symbols-requires : goal.prefix-symbols-requires
prefix-symbols-requires c = let q = item-words c.args.tracer.working c.requires.within.0 c.requires.within.1 in record { within = q.0; index_in_bounds = q.1 }

pub walk_back-requires : goal.walk_back-requires
walk_back-requires c = rw c.requires.table (prefix-listed c.args.tracer.working c.requires.within.0 c.requires.within.1 _ c.prefix-symbols.ensures.0)

pub returns : goal.returns
returns c = record { found = found_is c.args.tracer.working c.requires.within.0 c.requires.within.1 _ _ c.prefix-symbols.ensures.1 (traced (meaning c.args.tracer.table.words.now) (fits c.args.tracer.table.words.now c.args.tracer.table.accepted) c.args.state c.requires.within.0 _ _ _ _ _ c.from.ensures (rw c.requires.table at c.walk_back.ensures.found)); table_after = c.walk_back.ensures.table }
