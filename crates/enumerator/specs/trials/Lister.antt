-- The plain lister (docs/RULES.md, "Listing"): fed only table, edges, start item, any lookahead and each call's lengths.
use Rattle.std.specs.Prelude.{ℕ, zero, suc, ◌-◌, Bool, true, false, ◌&&◌, List, [], ◌∷◌, map, drop, nat_le, slice_index_or}
use Rattle.std.proofs.Math.Option.{Option, none, some}
use Rattle.lr1_base.specs.repr.Sizes.{graph_room, scratch_words, trial_limit, example_room}
use Rattle.lr1_base.specs.repr.Meaning.{Item, Table, Production, no_production}
use Rattle.first.specs.First.{sets_of_first}
use Rattle.trace_graph.specs.Graph.{Node, at_nonterminal, at_item, TraceEdge, no_edge}
use Rattle.enumerator.specs.example.Example.{Label, example_words, meets}
use Rattle.enumerator.specs.trials.Trials.{Path, ends_of, trials, is_example_in}

-- the lengths that a call is lent; what refusal 11 asks
pub record Call : Type 0 where
  pub graph : ℕ
  pub scratch : ℕ
  pub buffer : ℕ

unfoldable pub enough : Call → Bool
enough c = nat_le graph_room c.graph && (nat_le scratch_words c.scratch && nat_le example_room c.buffer)

-- the nonterminal of a node
unfoldable pub owner_of_node : List Production → Node → ℕ
owner_of_node ps (at_nonterminal n) = n
owner_of_node ps (at_item i) = (slice_index_or ps i.production no_production).nonterminal

-- a path's labels, innermost first
unfoldable pub label_at : List Production → List TraceEdge → ℕ → Label
label_at ps es k = record {
  nonterminal = owner_of_node ps (slice_index_or es k no_edge).source;
  production = (slice_index_or es k no_edge).label.production;
  index = (slice_index_or es k no_edge).label.index;
}

unfoldable pub labels_of : List Production → List TraceEdge → Path → List Label
labels_of ps es p = map (label_at ps es) p

-- what is handed out: the examples, with a lookahead those whose `first0` meets it
unfoldable pub passes : Table → List TraceEdge → Option ℕ → Path → Bool
passes T es none p = true
passes T es (some set) p = meets T.terminals (sets_of_first T.terminals T.productions) T.productions set (labels_of T.productions es p)

unfoldable pub hands : Table → List TraceEdge → Option ℕ → Path → Bool
hands T es ahead p = is_example_in (ends_of es) p && passes T es ahead p

-- a trial's words as an example
unfoldable pub says : Table → List TraceEdge → Path → List ℕ
says T es p = example_words T.productions (labels_of T.productions es p)

-- what a search finds: an example with its number, the end with the number of all trials, or trial 100,001
pub data Found : Type 0 where
  hit : ℕ → Path → Found
  out : ℕ → Found
  over : Found

-- past c trials made, with l more allowed: the first of the rest that is handed out
unfoldable pub search : (Path → Bool) → ℕ → ℕ → List Path → Found
search t l c [] = out c
search t zero c (p ∷ ps) = over
search t (suc l) c (p ∷ ps) = elim (t p) [ true ↦ hit (suc c) p | false ↦ search t l (suc c) ps ]

-- what a call answers, and the count after it
pub data Answer : Type 0 where
  example : List ℕ → Answer
  end : Answer
  refused : ℕ → Answer

pub record Out : Type 0 where
  pub answer : Answer
  pub count : ℕ

pub record Plain : Type 0 where
  pub count : ℕ
  pub is_open : Bool

abbrev pub fresh : Plain
fresh = record { count = 0; is_open = true }

unfoldable pub found_out : (Path → List ℕ) → Found → Out
found_out say (hit n p) = record { answer = example (say p); count = n }
found_out say (out n) = record { answer = end; count = n }
found_out say over = record { answer = refused 13; count = trial_limit }

unfoldable pub found_then : Found → Plain
found_then (hit n p) = record { count = n; is_open = true }
found_then (out n) = record { count = n; is_open = false }
found_then over = record { count = trial_limit; is_open = false }

module _ (t : Path → Bool) (say : Path → List ℕ) (ts : List Path) where
  unfoldable pub plain_find : Plain → Found
  plain_find s = search t (trial_limit - s.count) s.count (drop s.count ts)

  -- by whether the call is lent what 11 asks, and whether the listing is open
  unfoldable pub plain_out : Bool → Bool → Plain → Out
  plain_out false o s = record { answer = refused 11; count = s.count }
  plain_out true false s = record { answer = end; count = s.count }
  plain_out true true s = found_out say (plain_find s)

  unfoldable pub plain_then : Bool → Bool → Plain → Plain
  plain_then false o s = s
  plain_then true false s = s
  plain_then true true s = found_then (plain_find s)

  unfoldable pub plain_run : List Call → Plain → List Out
  plain_run [] s = []
  plain_run (c ∷ cs) s = plain_out (enough c) s.is_open s ∷ plain_run cs (plain_then (enough c) s.is_open s)

-- the plain lister's answers to a list of calls
unfoldable pub plain_lister : Table → List TraceEdge → Item → Option ℕ → List Call → List Out
plain_lister T es start ahead cs = plain_run (hands T es ahead) (says T es) (trials (ends_of es) (at_item start)) cs fresh
