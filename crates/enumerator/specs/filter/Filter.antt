-- The filter of a listing (docs/RULES.md, "Listing") over its parts: e is the end of input, sets the FIRST sets, ps the productions. `hands_by_lem` of proofs/filter/Passing: over those of a table it is that of the plain lister.
use Rattle.std.specs.Prelude.{ℕ, Bool, true, ◌&&◌, List}
use Rattle.std.proofs.Math.Option.{Option, none, some}
use Rattle.lr1_base.specs.repr.Meaning.{Production}
use Rattle.trace_graph.specs.Graph.{TraceEdge}
use Rattle.enumerator.specs.example.Example.{meets}
use Rattle.enumerator.specs.trials.Trials.{Path, ends_of, is_example_in}
use Rattle.enumerator.specs.trials.Lister.{labels_of}

unfoldable pub passes_by : ℕ → List ℕ → List Production → List TraceEdge → Option ℕ → Path → Bool
passes_by e sets ps es none p = true
passes_by e sets ps es (some set) p = meets e sets ps set (labels_of ps es p)

-- what is handed out
unfoldable pub hands_by : ℕ → List ℕ → List Production → List TraceEdge → Option ℕ → Path → Bool
hands_by e sets ps es ahead p = is_example_in (ends_of es) p && passes_by e sets ps es ahead p
