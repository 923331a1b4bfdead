-- Items that lead to nothing new (specs/Passed), from the nonterminals that were entered from a state.
use Rattle.std.specs.Prelude.{ℕ, ◌+◌, ◌*◌, List}
use Rattle.lr1_base.specs.repr.Sizes.{nonterminal_limit}
use Rattle.lr1_base.specs.repr.Meaning.{Item, All}
use Rattle.table.specs.Decoded.{meaning}
use Rattle.trace_graph.specs.Graph.{TraceEdge}
use Rattle.trace.specs.Passed.{ItemPassed}
use Rattle.lr1_base.specs.bits.Bits.{bit_at}
use Rattle.trace.specs.edge_codes.Coded.{Coded}

-- fs: the flags of the edges' keys; v: those of the pairs entered; b: the state
abbrev pub Clear : (t fs v : List ℕ) → ℕ → List Item → Type 0
Clear t fs v b is = (ws : List ℕ) (es : List TraceEdge) → Coded (meaning t) ws fs es → All (ItemPassed (meaning t) (λ n. bit_at v (b * nonterminal_limit + n)) es) is
