-- The records from which a chain of edges comes to an edge by one symbol into a set of states, as the code keeps them: a bit a record.
use Rattle.std.specs.Prelude.{Option, MatchOption, ℕ, Bool, true, ◌&&◌, ◌||◌, ◌≡◌, List, length, eqb, ltb}
use Rattle.lr1_base.specs.repr.Lists.{mem, some?}
use Rattle.lr1_base.specs.repr.Meaning.{Symbol, is_same_symbol, Edge}
use Rattle.lr1_base.specs.repr.Listed.{symbol_of_kind}
use Rattle.table.specs.Words.{word_at, records}
use Rattle.table.specs.Decoded.{edges_from}
use Rattle.table.specs.Refusals.{as_edge}
use Rattle.state_graph.specs.States.{has_state, states_in}
use Rattle.state_graph.specs.declared.StateSet.{StateSet}
use Rattle.lr1_base.specs.bits.Bits.{bit_at}

-- words for a bit a record
abbrev pub hit_words : ℕ
hit_words = 128

-- an edge by j y to state z goes by the symbol k x into the set of states
unfoldable pub goes_in : ℕ → ℕ → ℕ → ℕ → ℕ → ℕ → ℕ → Bool
goes_in k x low high j y z = eqb j k && (eqb y x && has_state low high z)

-- record r does, read as an edge
unfoldable pub has_end_in : List ℕ → ℕ → ℕ → ℕ → ℕ → ℕ → Bool
has_end_in t k x low high r = goes_in k x low high (word_at t r 1) (word_at t r 2) (word_at t r 3)

-- or the next record, if it keeps the rule, is hit
unfoldable pub is_hit_now : List ℕ → List ℕ → ℕ → ℕ → ℕ → ℕ → ℕ → Bool
is_hit_now t hs k x low high r =
    has_end_in t k x low high r || (ltb r (word_at t r 0) && (ltb (word_at t r 0) (records t) && bit_at hs (word_at t r 0)))

-- an edge by the symbol into one of the states
unfoldable pub meets : Symbol → List ℕ → Edge → Bool
meets x ss e = is_same_symbol x e.symbol && mem e.target ss

-- of the records that are edges, exactly those are hit from which a chain comes to such an edge
pub record Hits (t : List ℕ) (k x low high : ℕ) (hs : List ℕ) : Type 0 where
  pub long : length hs ≡ hit_words
  pub exact : (r : ℕ) → as_edge t r ≡ true → bit_at hs r ≡ some? (meets (symbol_of_kind k x) (states_in low high)) (edges_from t r)

-- what a step along the chains answers: the states found, or nothing
abbrev pub SteppedTo : List ℕ → Option StateSet → Type 0
SteppedTo ss r = MatchOption r (Unit {0}) (λ found. states_in found.low found.high ≡ ss)
