-- A listing opens over every accepted trace, from the traced item, with any lookahead of the table (docs/RULES.md, "Tracing", "Listing").
use Rattle.std.proofs.Common.{◌≡◌, ℕ, true, List}
use Rattle.lr1_base.specs.repr.Reply.{answered}
use Rattle.lr1_base.specs.repr.Meaning.{Item, Table}
use Rattle.table.specs.Decoded.{meaning}
use Rattle.trace_graph.specs.Graph.{TraceEdge}
use Rattle.trace.specs.Outcome.{outcome, shift_of, reduce_of}
use Rattle.trace.specs.TracedGraph.{Traced}
use Rattle.trace.proofs.TracedGraph.{shift_traced, reduce_traced}
use Rattle.enumerator.specs.trials.Advance.{set_of, ahead_fits, open_of}
use Rattle.enumerator.specs.trials.Opening.{listing}
use Rattle.enumerator.specs.trials.Lookahead.{Lookahead}
use Rattle.enumerator.proofs.trials.Opening.{ready, opens}

module _ (t : List ℕ) (s : ℕ) (i : Item) (graph scratch : List ℕ) (n : ℕ) (g w : List ℕ) (ahead : Lookahead) (fit : ahead_fits (meaning t) (set_of ahead) ≡ true) where
  opens-over : (Step : Table → TraceEdge → Type 0) → Traced Step t i g → open_of t i ahead g ≡ answered (listing i ahead 0 true)
  opens-over Step X = opens t i ahead g (ready t i ahead g X.accepted X.item fit X.long X.passes X.node)

  pub shift_opens : shift_of t s i graph scratch ≡ outcome (answered n) g w → open_of t i ahead g ≡ answered (listing i ahead 0 true)
  shift_opens e = opens-over _ (shift_traced t s i graph scratch n g w e)

  pub reduce_opens : reduce_of t s i graph scratch ≡ outcome (answered n) g w → open_of t i ahead g ≡ answered (listing i ahead 0 true)
  reduce_opens e = opens-over _ (reduce_traced t s i graph scratch n g w e)
