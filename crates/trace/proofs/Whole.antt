-- The item step begun over nothing, with fuel enough, is the whole reduce trace.
use Rattle.std.proofs.Common.{◌≡◌, ℕ, ◌<◌, ◌≤◌, List, length, replicate}
use Rattle.lr1_base.specs.repr.Meaning.{Item, Table}
use Rattle.trace.specs.Traced.{Trace, untraced, pairs}
use Rattle.trace.specs.Reduce.{item_of_reduce, state_of_reduce, reduce_trace, reduce_edges}
use Rattle.trace.specs.edge_codes.Coded.{Coded}
use Rattle.trace.specs.Held.{Held, unset}
use Rattle.trace.specs.Stamps.{stamp_words, Reducing, Reduces, ReduceExceeds}
use Rattle.trace.proofs.States.{enough}
use Rattle.trace.proofs.StampLaws.{stamped_none}

pub begun : (T : Table) (ws fs vs ss : List ℕ) → Held T ws fs vs untraced → ss ≡ replicate stamp_words 0 → Reducing T ws fs vs ss untraced
begun T ws fs vs ss H e = rw e (record { held = H; stamped = stamped_none T untraced })

module _ (T : Table) (s : ℕ) (i : Item) (ws fs vs ss : List ℕ) (R : Reducing T ws fs vs ss untraced) where
  pub reduce_coded : (ws' fs' vs' ss' : List ℕ) → ((f : ℕ) → unset vs ≤ f → Reduces T (λ (st : Trace). item_of_reduce T (λ (p m : ℕ) (u : Trace). state_of_reduce T f p m u) s i st) ws fs vs ss ws' fs' vs' ss')
      → Coded T ws' fs' (reduce_edges T s i)
  unfolding reduce_edges reduce_trace
  reduce_coded ws' fs' vs' ss' S = (S pairs (enough vs) untraced R).held.edges

  pub reduce_exceeds : ((f : ℕ) → unset vs ≤ f → ReduceExceeds T (λ (st : Trace). item_of_reduce T (λ (p m : ℕ) (u : Trace). state_of_reduce T f p m u) s i st) ws fs vs ss) → 1024 < length (reduce_edges T s i)
  unfolding reduce_edges reduce_trace
  reduce_exceeds X = X pairs (enough vs) untraced R
