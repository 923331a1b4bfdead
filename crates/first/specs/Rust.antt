-- FIRST as the Rust has it (lr1/first, lr1/trace, lr1/error): one set, in which the end of input e marks a nullable list; what it asks of such sets.
-- `rust_set` and the laws beside it (proofs/Rust) say how the answers of specs/First stand to it.
use Rattle.std.specs.Prelude.{ℕ, Bool, true, false, not, List, eqb}
use Rattle.lr1_base.specs.repr.Meaning.{Symbol, Table}
use Rattle.lr1_base.specs.lookahead.Tokens.{has, single, union, meet}
use Rattle.first.specs.declared.Answer.{Answer}
use Rattle.first.specs.First.{marked_at_end, sets_of_first}

-- `first0`
unfoldable pub rust_first0 : Table → List Symbol → ℕ
rust_first0 T xs = marked_at_end T.terminals (sets_of_first T.terminals T.productions) xs

-- the terminals of an answer, with end added for yes
unfoldable pub with_end : ℕ → Answer → ℕ
with_end e a = elim a.nullable [ true ↦ union a.tokens.0 (single e) | false ↦ a.tokens.0 ]

-- tracing's question
unfoldable pub rust_nullable : Table → List Symbol → Bool
rust_nullable T xs = has (rust_first0 T xs) T.terminals

-- the filter's
unfoldable pub rust_meets : Table → List Symbol → ℕ → Bool
rust_meets T xs ahead = not (eqb (meet (rust_first0 T xs) ahead) 0)

-- the inline test's
unfoldable pub rust_disjoint : Table → List Symbol → List Symbol → Bool
rust_disjoint T xs ys = eqb (meet (rust_first0 T xs) (rust_first0 T ys)) 0
