-- Laws of joined lists, in the order of docs/RULES.md, "Joined lists": for every table, all lists of symbols and all answers. Assumes nothing: these are
-- definitions.
use Rattle.std.specs.Prelude.{ℕ, ◌<◌, ◌≡◌, List, [], ◌++◌, length}
use Rattle.lr1_base.specs.repr.Reply.{answered}
use Rattle.lr1_base.specs.repr.Lists.{joined}
use Rattle.lr1_base.specs.repr.Meaning.{Symbol, Table}
use Rattle.table.specs.Decoded.{meaning}
use Rattle.first.specs.declared.Answer.{Answer}
use Rattle.first.specs.First.{FIRST, join_answers}
use Rattle.state_graph.specs.Walk.{traced_back, merged}
use Rattle.lr1.specs.Entries.{first0_of, trace_back_of}

pub record Joining (T : Table) : Type 0 where
  -- FIRST of two joined lists follows from the answers of the halves alone
  pub answers : (xs ys : List Symbol) → FIRST T (xs ++ ys) ≡ join_answers (FIRST T xs) (FIRST T ys)
  -- the joining is associative
  pub associative : (a b c : Answer) → join_answers (join_answers a b) c ≡ join_answers a (join_answers b c)
  -- the answer of the empty list is neutral on both sides
  pub neutral_left : (a : Answer) → join_answers (FIRST T []) a ≡ a
  pub neutral_right : (a : Answer) → join_answers a (FIRST T []) ≡ a
  -- walking back over two joined lists is walking back over the second and, from each state found, over the first, all merged
  pub walks : (s : ℕ) (xs ys : List Symbol) → traced_back T s (xs ++ ys) ≡ merged (joined (λ q. traced_back T q xs) (traced_back T s ys))

-- the same of the public entries, over the words t of any table: where both halves are answered, the joined list is, by the halves' answers
pub record EntriesJoin (t : List ℕ) : Type 0 where
  pub answers : (xs ys : List ℕ) (a b : Answer) → first0_of t xs ≡ answered a → first0_of t ys ≡ answered b → first0_of t (xs ++ ys) ≡ answered (join_answers a b)
  pub walks : (s : ℕ) (xs ys found : List ℕ) (back : ℕ → List ℕ) → trace_back_of t s ys ≡ answered found
      → ((q : ℕ) → q < length (meaning t).states → trace_back_of t q xs ≡ answered (back q)) → trace_back_of t s (xs ++ ys) ≡ answered (merged (joined back found))
