-- The listing that opening gives, and what opening asks (docs/RULES.md, "Listing").
use Rattle.std.specs.Prelude.{◌≡◌, ℕ, ◌≤◌, Bool, true, List, length}
use Rattle.lr1_base.specs.repr.Sizes.{graph_room}
use Rattle.lr1_base.specs.repr.Meaning.{Item}
use Rattle.table.specs.Checked.{Accepted}
use Rattle.table.specs.Decoded.{meaning}
use Rattle.table.specs.Refusals.{check_of}
use Rattle.trace_graph.specs.Graph.{at_item, is_node_of}
use Rattle.trace_graph.specs.Words.{edges_in}
use Rattle.enumerator.specs.trials.Advance.{set_of, asked}
use Rattle.enumerator.specs.trials.Lookahead.{Lookahead}
use Rattle.enumerator.specs.declared.trials.Listing.{Listing}

-- a listing holds its start item, any lookahead, its count and whether it is open
abbrev pub listing : Item → Lookahead → ℕ → Bool → Listing
listing i ahead c o = record { production = record { 0 = i.production }; index = i.index; lookahead = ahead; count = c; is_open = o }

-- what opening asks: no refusal of 1 to 9, 11 and 15
pub record Ready (t : List ℕ) (i : Item) (ahead : Lookahead) (g : List ℕ) : Type 0 where
  pub accepted : check_of t ≡ Accepted
  pub asks : asked (meaning t) i (set_of ahead) g ≡ true
  pub long : graph_room ≤ length g
  pub node : is_node_of (at_item i) (edges_in g) ≡ true
