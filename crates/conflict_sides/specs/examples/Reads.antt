-- What classifying reads of a table: its productions in words, its FIRST sets, and what tracing goes by, each made once.
use Rattle.std.specs.Prelude.{◌≡◌, ℕ, ◌<◌, List, length, slice_index}
use Rattle.lr1_base.specs.repr.Sizes.{production_limit}
use Rattle.lr1_base.specs.repr.Packed.{Packed, productions_in}
use Rattle.table.specs.Checked.{Accepted}
use Rattle.table.specs.Decoded.{meaning}
use Rattle.table.specs.Refusals.{check_of}
use Rattle.first.specs.First.{sets_of_first}
use Rattle.trace.specs.Ends.{Ends}
use Rattle.trace.specs.edge_codes.Coded.{Leasts}

-- an accepted table t, its productions in words g, the end of input, its FIRST sets, the least equal productions, which items have a nullable suffix
pub record Reads (t g : List ℕ) (productions terminals : ℕ) (sets least ends : List ℕ) : Type 0 where
  pub accepted : check_of t ≡ Accepted
  pub packed : Packed g productions
  pub same : productions_in g productions ≡ (meaning t).productions
  pub many : productions ≡ length (meaning t).productions
  pub tokens : terminals ≡ (meaning t).terminals
  pub firsts : sets ≡ sets_of_first (meaning t).terminals (meaning t).productions
  pub leasts : Leasts (meaning t).productions least
  pub small : (p : ℕ) → p < production_limit → slice_index least p < production_limit
  pub suffixes : Ends (meaning t) ends
