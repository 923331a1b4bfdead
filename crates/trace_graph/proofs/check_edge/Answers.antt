use Rattle.std.proofs.Common.{sym, true≢false}
use Rattle.trace_graph.proofs.Checks.{Looked, check_out, check_fits, check_small, check_twice, check_new, check_linked}
use Rattle.trace_graph.proofs.check_edge.Goals as goal
use Rattle.trace_graph.proofs.check_edge.Goals.{After-edge_fits}

looked : (c : After-edge_fits) → Looked c.args.grammar.words.now c.args.grammar.productions c.args.n c.args.graph.now c.args.ix.now c.args.k c.read_edge-edge.result c.edge_fits.result
looked c = record { packed = c.args.grammar.packed; graph = c.requires.graphed; low = c.requires.k_lt_edge_limit; read = c.read_edge-edge.ensures.1; fits = c.edge_fits.ensures }

pub bucket_of-bucket-requires : goal.bucket_of-bucket-requires
bucket_of-bucket-requires c = record { small_edge = check_small (looked (goal.at.bucket_of-bucket-requires c).After-edge_fits) c.if-not-edge_fits.false }

pub find-requires : goal.find-requires
find-requires c = record { graphed = c.requires.graphed; edge_value = check_fits (looked (goal.at.find-requires c).After-edge_fits) c.if-not-edge_fits.false; bucket_value = c.bucket_of-bucket.ensures }

pub returns-then-find : goal.returns-then-find
returns-then-find c = record { value = check_twice (looked (goal.at.returns-then-find c).After-edge_fits) c.if-not-edge_fits.false c.find.ensures c.if-find.true; graphed_2 = λ z. absurd (true≢false (sym z)) }

pub link-requires : goal.link-requires
link-requires c = (c.requires.graphed.index.long, (c.requires.k_lt_edge_limit, c.bucket_of-bucket.ensures.1))

pub returns : goal.returns
returns c = let L = looked (goal.at.returns c).After-edge_fits in
    let y = c.if-not-edge_fits.false in record { value = check_new L y c.find.ensures c.if-find.false; graphed_2 = λ _. check_linked L y c.find.ensures c.bucket_of-bucket.ensures c.link.ensures }

pub returns-then-not-edge_fits : goal.returns-then-not-edge_fits
returns-then-not-edge_fits c = record { value = check_out (looked (goal.at.returns-then-not-edge_fits c).After-edge_fits) c.if-not-edge_fits.true; graphed_2 = λ z. absurd (true≢false (sym z)) }
