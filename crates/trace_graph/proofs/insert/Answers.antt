use Rattle.std.proofs.Common.{ℕ, ◌+◌, List, get_or, set, ap}
use Rattle.lr1_base.specs.repr.Packed.{productions_in}
use Rattle.trace_graph.proofs.Fits.{value_small}
use Rattle.trace_graph.proofs.Inserts.{Adding, graphed_count, insert_small, insert_there, insert-full, insert_low, insert-more}
use Rattle.trace_graph.proofs.insert.Goals as goal
use Rattle.trace_graph.proofs.insert.Goals.{After-find}

adding : (c : After-find) → Adding c.args.grammar.words.now c.args.grammar.productions c.args.n c.args.graph.now c.args.ix.now c.args.edge c.word-count.result c.find.result
adding c = record { packed = c.args.grammar.packed; graph = c.requires.graphed; fits = c.requires.edge_value; count = c.word-count.ensures.0; found = c.find.ensures }

pub bucket_of-bucket-requires : goal.bucket_of-bucket-requires
bucket_of-bucket-requires c = let A = c.args in record { small_edge = value_small A.grammar.words.now A.grammar.productions c.args.grammar.packed A.n c.requires.graphed.nonterminals A.edge c.requires.edge_value }

pub find-requires : goal.find-requires
find-requires c = let A = c.args in record { graphed = graphed_count A.n (productions_in A.grammar.words.now A.grammar.productions) A.graph.now A.ix.now c.word-count.result (get_or A.graph.now 0 0) c.word-count.ensures.0 c.requires.graphed; edge_value = c.requires.edge_value; bucket_value = c.bucket_of-bucket.ensures }

pub returns-then-find : goal.returns-then-find
returns-then-find c = record { added = insert_there (adding (goal.at.returns-then-find c).After-find) c.if-find.true; overfull = tt }

pub returns-then-count-eq-EDGES : goal.returns-then-count-eq-EDGES
returns-then-count-eq-EDGES c = record { added = tt; overfull = insert-full (adding (goal.at.returns-then-count-eq-EDGES c).After-find) c.if-find.false c.if-count-eq-EDGES.true }

pub write_edge-requires : goal.write_edge-requires
write_edge-requires c = let A = adding (goal.at.write_edge-requires c).After-find in record { k_lt_edge_limit = (insert_low A c.if-find.false c.if-count-eq-EDGES.false, A.graph.long); small_edge = insert_small A }

pub link-requires : goal.link-requires
link-requires c = let A = adding (goal.at.link-requires c).After-find in
    (A.graph.index.long, (insert_low A c.if-find.false c.if-count-eq-EDGES.false, c.bucket_of-bucket.ensures.1))

pub returns : goal.returns
returns c = record { added = insert-more (adding (goal.at.returns c).After-find) c.if-find.false c.if-count-eq-EDGES.false (ap (λ (l : List ℕ). set l 0 (c.word-count.result + 1)) c.write_edge.ensures) c.bucket_of-bucket.ensures c.link.ensures; overfull = tt }
