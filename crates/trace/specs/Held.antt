-- What the words of a trace at work hold when an edge is one word: the trace's edges, and a bit for each pair that is entered.
use Rattle.std.specs.Prelude.{◌≡◌, ℕ, zero, suc, ◌*◌, ◌<◌, true, false, List, length, slice_index}
use Rattle.lr1_base.specs.repr.Sizes.{nonterminal_limit, state_limit, production_limit, edge_limit}
use Rattle.lr1_base.specs.repr.Lists.{mem}
use Rattle.lr1_base.specs.repr.Meaning.{Table}
use Rattle.lr1_base.specs.repr.Packed.{Packed, productions_in}
use Rattle.table.specs.Checked.{Accepted}
use Rattle.table.specs.Decoded.{meaning}
use Rattle.table.specs.Refusals.{check_of}
use Rattle.trace.specs.Traced.{Trace}
use Rattle.lr1_base.specs.bits.Bits.{bit_at}
use Rattle.trace.specs.edge_codes.Coded.{Coded, Leasts}

-- pairs of a state and a nonterminal, and words for a bit a pair
abbrev pub pair_limit : ℕ
pair_limit = state_limit * nonterminal_limit

abbrev pub pair_words : ℕ
pair_words = 64

-- ws: a count, and a word an edge; fs: the keys' flags; vs: the pairs' flags
pub record Held (T : Table) (ws fs vs : List ℕ) (st : Trace) : Type 0 where
  pub edges : Coded T ws fs st.edges
  pub seen : (k : ℕ) → k < pair_limit → bit_at vs k ≡ mem k st.seen

abbrev pub Steps : Table → (Trace → Trace) → List ℕ → List ℕ → List ℕ → List ℕ → List ℕ → List ℕ → Type 0
Steps T step ws fs vs ws' fs' vs' = (st : Trace) → Held T ws fs vs st → Held T ws' fs' vs' (step st)

-- too many edges: refusal 12
abbrev pub Exceeds : Table → (Trace → Trace) → List ℕ → List ℕ → List ℕ → Type 0
Exceeds T step ws fs vs = (st : Trace) → Held T ws fs vs st → edge_limit < length (step st).edges

-- of the flags below k those that are not set: what falls in the recursion
unfoldable pub open_bits : ℕ → List ℕ → ℕ
open_bits zero vs = 0
open_bits (suc k) vs = elim (bit_at vs k) [ true ↦ open_bits k vs | false ↦ suc (open_bits k vs) ]

abbrev pub unset : List ℕ → ℕ
unset vs = open_bits pair_limit vs

-- what a trace works over: an accepted table, its productions packed, the least equal productions
pub record Working (t g : List ℕ) (productions : ℕ) (ls : List ℕ) : Type 0 where
  pub accepted : check_of t ≡ Accepted
  pub packed : Packed g productions
  pub same : productions_in g productions ≡ (meaning t).productions
  pub least : Leasts (meaning t).productions ls
  pub small : (p : ℕ) → p < production_limit → slice_index ls p < production_limit
