-- The accuracy rule: accepted tables with the same counts, productions, spans, items in order and edges in order get the same answers, whatever their words.
use Rattle.std.proofs.Common.{◌≡◌, ℕ, zero, suc, ◌*◌, List, [], ◌∷◌, ◌++◌, length, take, sym, refl, ap, ◌∙◌}
use Rattle.lr1_base.specs.repr.Reply.{answered, Reply, refused}
use Rattle.lr1_base.specs.repr.Meaning.{Item, Table}
use Rattle.table.specs.Checked.{Accepted}
use Rattle.table.specs.Decoded.{meaning}
use Rattle.table.specs.Refusals.{check_of}
use Rattle.trace_graph.specs.declared.TraceEdge.{TraceEdge}
use Rattle.table_rewrite.specs.spelling.Spelled.{SameTable}
use Rattle.table_rewrite.specs.spelling.Outcome.{written_of, respell_of}
use Rattle.table_rewrite.proofs.spelling.Same.{same_is}
use Rattle.table_rewrite.proofs.spelling.Rising.{meaning_ordered}
use Rattle.table_rewrite.proofs.spelling.Wrote.{respell_accepted}
use Rattle.table_rewrite.specs.compaction.Outcome.{compact_of}
use Rattle.table_rewrite.proofs.compaction.Called.{left, left_accepted, left-meaning, front_accepted, front-meaning}
use Rattle.lr1_tables.specs.Outcome.{build_of}
use Rattle.yacc_writer.specs.text.Outcome.{write_of}
use Rattle.lr1.specs.Entries.{over_table, first0_of, first1_of, trace_back_of}
use Rattle.lr1.specs.Edges.{add_edge_of}
use Rattle.trace.specs.Outcome.{trace_by, shift_of, reduce_of}
use Rattle.enumerator.specs.trials.Advance.{open_by, open_of, advance_by, advance_of}
use Rattle.enumerator.specs.trials.Calls.{Lent, listing_by, scratch_by, called, scratch_after}
use Rattle.enumerator.specs.trials.Lookahead.{Lookahead}
use Rattle.enumerator.specs.declared.trials.Listing.{Listing}
use Rattle.listing.specs.CallList.{lents_in, refusal_of_calls, list_by, list_of}
use Rattle.conflict_sides.specs.declared.conflict.Conflict.{Conflict}
use Rattle.conflict_sides.specs.conflict.Outcome.{classify_by_with, classify_of, classify_with}
use Rattle.conflict_sides.specs.conflict.Choose.{choose_by_with, choose_of, choose_with}
use Rattle.lihvemur_c.specs.Accuracy.{SameAnswers}

module _ (t u : List ℕ) (a : check_of t ≡ Accepted) (b : check_of u ≡ Accepted) (m : meaning t ≡ meaning u) where
  respell_same : (out : List ℕ) → respell_of t out ≡ respell_of u out
  respell_same out = respell_accepted t out a ∙ ap (λ (T : Table). written_of T out) m ∙ sym (respell_accepted u out b)

  build_same : (start : ℕ) (scratch out conflicts : List ℕ) → build_of t start scratch out conflicts ≡ build_of u start scratch out conflicts
  unfolding build_of
  build_same start scratch out conflicts = rw (a, b, m, build_of)

  write_same : (text : List ℕ) → write_of t text ≡ write_of u text
  unfolding write_of
  write_same text = rw (a, b, m, write_of)

  first0_same : (symbols : List ℕ) → first0_of t symbols ≡ first0_of u symbols
  unfolding first0_of over_table
  first0_same symbols = rw (a, b, m)

  first1_same : (symbols : List ℕ) (ahead : ℕ) → first1_of t symbols ahead ≡ first1_of u symbols ahead
  unfolding first1_of over_table
  first1_same symbols ahead = rw (a, b, m)

  trace_back_same : (state : ℕ) (symbols : List ℕ) → trace_back_of t state symbols ≡ trace_back_of u state symbols
  unfolding trace_back_of over_table
  trace_back_same state symbols = rw (a, b, m)

  add_edge_same : (e : TraceEdge) (graph : List ℕ) → add_edge_of t e graph ≡ add_edge_of u e graph
  unfolding add_edge_of over_table
  add_edge_same e graph = rw (a, b, m)

  shift_same : (state : ℕ) (i : Item) (graph scratch : List ℕ) → shift_of t state i graph scratch ≡ shift_of u state i graph scratch
  unfolding shift_of trace_by
  shift_same state i graph scratch = rw (a, b, m)

  reduce_same : (state : ℕ) (i : Item) (graph scratch : List ℕ) → reduce_of t state i graph scratch ≡ reduce_of u state i graph scratch
  unfolding reduce_of trace_by
  reduce_same state i graph scratch = rw (a, b, m)

  open_same : (i : Item) (ahead : Lookahead) (graph : List ℕ) → open_of t i ahead graph ≡ open_of u i ahead graph
  unfolding open_of open_by
  open_same i ahead graph = rw (a, b, m)

  advance_same : (l : Listing) (graph scratch buffer : List ℕ) → advance_of l t graph scratch buffer ≡ advance_of l u graph scratch buffer
  unfolding advance_of advance_by
  advance_same l graph scratch buffer = rw (a, b, m)

  classify_same : (c : Conflict) (scratch action reduce : List ℕ) → classify_of t c scratch action reduce ≡ classify_of u c scratch action reduce
  unfolding classify_with classify_by_with
  classify_same c scratch action reduce = rw (a, b, m)

  choose_same : (c : Conflict) (set : ℕ) (scratch : List ℕ) → choose_of t c set scratch ≡ choose_of u c set scratch
  unfolding choose_with choose_by_with
  choose_same c set scratch = rw (a, b, m)

  -- a list of calls
  called_same : (graph : List ℕ) (l : Listing) (scratch : List ℕ) (c : Lent) → called t graph l scratch c ≡ called u graph l scratch c
  unfolding called
  called_same graph l scratch c = advance_same l (take c.graph graph) (take c.scratch scratch) c.buffer

  scratch_same : (graph : List ℕ) (l : Listing) (scratch : List ℕ) (cs : List Lent) → scratch_after t graph l scratch cs ≡ scratch_after u graph l scratch cs
  unfolding scratch_after
  scratch_same graph l scratch [] = refl
  scratch_same graph l scratch (c ∷ cs) =
      rw (called_same graph l scratch c) (scratch_same graph (listing_by (called u graph l scratch c)) (scratch_by c.scratch scratch (called u graph l scratch c)) cs)

  list_by_lem : (i : Item) (ahead : Lookahead) (calls graph scratch out : List ℕ) (k : ℕ) (o : Reply Listing) → list_by t i ahead calls graph scratch out k o ≡ list_by u i ahead calls graph scratch out k o
  unfolding list_by
  list_by_lem i ahead calls graph scratch out zero (refused n r) = refl
  list_by_lem i ahead calls graph scratch out (suc k) (refused n r) = refl
  list_by_lem i ahead calls graph scratch out (suc k) (answered l) = refl
  list_by_lem i ahead calls graph scratch out zero (answered l) = rw (scratch_same graph l scratch (lents_in calls out), m)

  examples_same : (i : Item) (ahead : Lookahead) (calls graph scratch out : List ℕ) → list_of t i ahead calls graph scratch out ≡ list_of u i ahead calls graph scratch out
  unfolding list_of
  examples_same i ahead calls graph scratch out = rw (open_same i ahead graph) (list_by_lem i ahead calls graph scratch out (refusal_of_calls calls (length out)) (open_of u i ahead graph))

  all_same : SameAnswers t u
  all_same = record {
    respell = respell_same;
    build_states = build_same;
    write_yacc = write_same;
    first0 = first0_same;
    first0_joined = λ xs ys. first0_same (xs ++ ys);
    first1 = first1_same;
    trace_back = trace_back_same;
    trace_back_joined = λ state xs ys. trace_back_same state (xs ++ ys);
    add_edge = add_edge_same;
    backtrace_shift = shift_same;
    backtrace_reduce = reduce_same;
    opens = open_same;
    advance = advance_same;
    examples = examples_same;
    classify = classify_same;
    choose = choose_same;
  }

-- for tables that docs/RULES.md, "One spelling", calls the same
pub same_answers : (t u : List ℕ) → check_of t ≡ Accepted → check_of u ≡ Accepted → SameTable (meaning t) (meaning u) → SameAnswers t u
same_answers t u a b s = all_same t u a b (same_is (meaning t) (meaning u) (meaning_ordered t a) (meaning_ordered u b) s)

-- and for what `compact` leaves (docs/RULES.md, "Unused records"): the whole slice, and its front of the records that are left
pub compact_same : (t ws : List ℕ) (n : ℕ) → compact_of t ≡ record { answer = answered n; table = ws } → SameAnswers t ws × SameAnswers t (take (4 * n) ws)
compact_same t ws n e =
    let a = (left t n ws e).accepted in
    (all_same t ws a (left_accepted t n ws e) (sym (left-meaning t n ws e)), all_same t (take (4 * n) ws) a (front_accepted t n ws e) (sym (front-meaning t n ws e)))
