-- Words that hold a trace's edges, one word each, beside the productions that they are of.
use Rattle.std.specs.Prelude.{◌≡◌, ℕ, ◌+◌, ◌<◌, ◌≤◌, List, length, get_or, slice_index, slice_index_or}
use Rattle.lr1_base.specs.repr.Sizes.{edge_limit}
use Rattle.lr1_base.specs.repr.Meaning.{Table, TableFits, All}
use Rattle.lr1_base.specs.repr.Packed.{Packed, productions_in}
use Rattle.trace_graph.specs.Graph.{TraceEdge, no_edge}
use Rattle.trace.specs.Sound.{EdgeSound}
use Rattle.trace.specs.edge_codes.Codes.{code_of}
use Rattle.trace.specs.edge_codes.Coded.{codes_room}

-- c is the word of the edge e of a trace over T, whose n productions are packed in g
pub record Decodes (g : List ℕ) (n : ℕ) (T : Table) (e : TraceEdge) (c : ℕ) : Type 0 where
  pub fits : TableFits T
  pub packed : Packed g n
  pub same : productions_in g n ≡ T.productions
  pub traced : EdgeSound T e
  pub is : c ≡ code_of e

-- `Coded` without the flags
pub record Carried (g : List ℕ) (n : ℕ) (ws : List ℕ) (T : Table) (es : List TraceEdge) : Type 0 where
  pub fits : TableFits T
  pub packed : Packed g n
  pub same : productions_in g n ≡ T.productions
  pub long : length ws ≡ codes_room
  pub few : length es ≤ edge_limit
  pub count : get_or ws 0 0 ≡ length es
  pub codes : (j : ℕ) → j < length es → slice_index ws (1 + j) ≡ code_of (slice_index_or es j no_edge)
  pub traced : All (EdgeSound T) es
