-- Names in the order of their entering: where each begins, and behind its last byte. Their index: a word for each bucket, which holds 0 or one more than the number of the latest name in it, then a word for each name, which holds the next older one of its bucket alike.
use Rattle.std.specs.Prelude.{ℕ, zero, suc, ◌+◌, ◌*◌, ◌%◌, ◌≤◌, ◌<◌, Bool, true, false, List, [], ◌∷◌, Option, Some, None, length, get_or, set, eqb}
use Rattle.std.proofs.Math.Seq.{slice}
use Rattle.lr1_base.specs.words.Same.{same_words}
use Rattle.lr1_base.specs.hash_index.Chains.{newest, Linked, chained}
use Rattle.yacc_reader.specs.declared.names.Placed.{Placed}

abbrev pub bucket_limit : ℕ
bucket_limit = 2048

-- bytes mixed into a number
unfoldable pub mixed : ℕ → List ℕ → ℕ
mixed h [] = h
mixed h (b ∷ bs) = mixed ((h * 211 + b) % 65536) bs

unfoldable pub bucket_number : List ℕ → ℕ
bucket_number bs = mixed 0 bs % bucket_limit

-- the bytes of name j
unfoldable pub name_in : List ℕ → List ℕ → List ℕ → ℕ → List ℕ
name_in t starts pasts j = slice (get_or starts j 0) (get_or pasts j 0) t

unfoldable pub in_bucket : List ℕ → List ℕ → List ℕ → ℕ → ℕ → Bool
in_bucket t starts pasts b j = eqb (bucket_number (name_in t starts pasts j)) b

unfoldable pub is_name : List ℕ → List ℕ → List ℕ → List ℕ → ℕ → Bool
is_name t starts pasts bs j = same_words bs (name_in t starts pasts j)

-- one more than the latest below k that passes a test, or 0
unfoldable pub latest : (ℕ → Bool) → ℕ → ℕ
latest u zero = 0
latest u (suc k) = elim (u k) [ true ↦ suc k | false ↦ latest u k ]

-- a number as words hold it: one more, or 0 for none
abbrev pub held : Option ℕ → ℕ
held None = 0
held (Some j) = suc j

-- the first k names and their index
pub record Entered (t starts pasts ix : List ℕ) (k : ℕ) : Type 0 where
  pub begun : k ≤ length starts
  pub ended : k ≤ length pasts
  pub long : bucket_limit + k ≤ length ix
  pub inside : (j : ℕ) → j < k → get_or pasts j 0 ≤ length t
  pub linked : (b : ℕ) → b < bucket_limit → Linked ix bucket_limit (get_or ix b 0) (newest (in_bucket t starts pasts b) k)

-- what `place` leaves: the words after it, and its answer
pub data Left : Type 0 where
  left : List ℕ → List ℕ → List ℕ → Placed → Left

-- by one more than the number of the name, or 0
unfoldable pub placed_by : ℕ → List ℕ → List ℕ → List ℕ → List ℕ → ℕ → ℕ → ℕ → Left
placed_by zero t starts pasts ix k from past = left (set starts k from) (set pasts k past) (chained ix bucket_limit (bucket_number (slice from past t)) k) (record { number = k; names = k + 1 })
placed_by (suc j) t starts pasts ix k from past = left starts pasts ix (record { number = j; names = k })

unfoldable pub placing : List ℕ → List ℕ → List ℕ → List ℕ → ℕ → ℕ → ℕ → Left
placing t starts pasts ix k from past = placed_by (latest (is_name t starts pasts (slice from past t)) k) t starts pasts ix k from past
