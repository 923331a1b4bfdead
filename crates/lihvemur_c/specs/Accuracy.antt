-- The accuracy rule (docs/RULES.md, "One spelling"): every public entry that only reads the table answers alike on two tables: answers, classes, examples, counts and lent words.
-- An entry that is added and only reads the table gets its line here.
use Rattle.std.specs.Prelude.{◌≡◌, ℕ, List, ◌++◌}
use Rattle.lr1_base.specs.repr.Meaning.{Item}
use Rattle.trace_graph.specs.declared.TraceEdge.{TraceEdge}
use Rattle.enumerator.specs.trials.Lookahead.{Lookahead}
use Rattle.enumerator.specs.declared.trials.Listing.{Listing}
use Rattle.conflict_sides.specs.declared.conflict.Conflict.{Conflict}
use Rattle.table_rewrite.specs.spelling.Outcome.{respell_of}
use Rattle.lr1_tables.specs.Outcome.{build_of}
use Rattle.yacc_writer.specs.text.Outcome.{write_of}
use Rattle.lr1.specs.Entries.{first0_of, first1_of, trace_back_of}
use Rattle.lr1.specs.Edges.{add_edge_of}
use Rattle.trace.specs.Outcome.{shift_of, reduce_of}
use Rattle.enumerator.specs.trials.Advance.{open_of, advance_of}
use Rattle.listing.specs.CallList.{list_of}
use Rattle.conflict_sides.specs.conflict.Outcome.{classify_of}
use Rattle.conflict_sides.specs.conflict.Choose.{choose_of}

pub record SameAnswers (t u : List ℕ) : Type 0 where
  pub respell : (out : List ℕ) → respell_of t out ≡ respell_of u out
  pub build_states : (start : ℕ) (scratch out conflicts : List ℕ) → build_of t start scratch out conflicts ≡ build_of u start scratch out conflicts
  pub write_yacc : (text : List ℕ) → write_of t text ≡ write_of u text
  pub first0 : (symbols : List ℕ) → first0_of t symbols ≡ first0_of u symbols
  pub first0_joined : (xs ys : List ℕ) → first0_of t (xs ++ ys) ≡ first0_of u (xs ++ ys)
  pub first1 : (symbols : List ℕ) (ahead : ℕ) → first1_of t symbols ahead ≡ first1_of u symbols ahead
  pub trace_back : (state : ℕ) (symbols : List ℕ) → trace_back_of t state symbols ≡ trace_back_of u state symbols
  pub trace_back_joined : (state : ℕ) (xs ys : List ℕ) → trace_back_of t state (xs ++ ys) ≡ trace_back_of u state (xs ++ ys)
  pub add_edge : (e : TraceEdge) (graph : List ℕ) → add_edge_of t e graph ≡ add_edge_of u e graph
  pub backtrace_shift : (state : ℕ) (i : Item) (graph scratch : List ℕ) → shift_of t state i graph scratch ≡ shift_of u state i graph scratch
  pub backtrace_reduce : (state : ℕ) (i : Item) (graph scratch : List ℕ) → reduce_of t state i graph scratch ≡ reduce_of u state i graph scratch
  pub opens : (i : Item) (ahead : Lookahead) (graph : List ℕ) → open_of t i ahead graph ≡ open_of u i ahead graph
  pub advance : (l : Listing) (graph scratch buffer : List ℕ) → advance_of l t graph scratch buffer ≡ advance_of l u graph scratch buffer
  pub examples : (i : Item) (ahead : Lookahead) (calls graph scratch out : List ℕ) → list_of t i ahead calls graph scratch out ≡ list_of u i ahead calls graph scratch out
  pub classify : (c : Conflict) (scratch action reduce : List ℕ) → classify_of t c scratch action reduce ≡ classify_of u c scratch action reduce
  pub choose : (c : Conflict) (set : ℕ) (scratch : List ℕ) → choose_of t c set scratch ≡ choose_of u c set scratch
