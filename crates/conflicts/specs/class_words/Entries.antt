-- A token with its class in six words: token, class number, up to four own values, zeros.
use Rattle.std.specs.Prelude.{ℕ, zero, suc, ◌+◌, List, [], ◌∷◌, map, get_or, take, drop}
use Rattle.lr1_base.specs.repr.Sizes.{entry_place}
use Rattle.lr1_base.specs.repr.Lists.{below}
use Rattle.std.proofs.lemmas.List.Edits.{sets}
use Rattle.conflict_sides.specs.declared.conflict.Class.{Class}
use Rattle.conflict_sides.specs.declared.conflict.Class.TheVariants.{Naive, Ambiguity, Precedence, SuggestInline, SuggestQuestion, AmbiguousReduction, InsufficientLookahead}
use Rattle.conflict_sides.specs.conflict.Choose.{Entry}

-- a class in five words: its number, its own values, zeros
unfoldable pub class_words : Class → List ℕ
class_words Naive = 0 ∷ 0 ∷ 0 ∷ 0 ∷ 0 ∷ []
class_words Ambiguity = 1 ∷ 0 ∷ 0 ∷ 0 ∷ 0 ∷ []
class_words (Precedence n) = 2 ∷ n.0 ∷ 0 ∷ 0 ∷ 0 ∷ []
class_words (SuggestInline n) = 3 ∷ n.0 ∷ 0 ∷ 0 ∷ 0 ∷ []
class_words (SuggestQuestion n k x) = 4 ∷ n.0 ∷ k ∷ x ∷ 0 ∷ []
class_words (AmbiguousReduction a b c d) = 5 ∷ a ∷ b ∷ c ∷ d ∷ []
class_words InsufficientLookahead = 6 ∷ 0 ∷ 0 ∷ 0 ∷ 0 ∷ []

-- entry k written
unfoldable pub with_entry : List ℕ → ℕ → ℕ → Class → List ℕ
with_entry ws k token class = sets ws (entry_place k) (token ∷ class_words class)

-- how many values a class of a number has
unfoldable pub count_of_values : ℕ → ℕ
count_of_values zero = 0
count_of_values (suc zero) = 0
count_of_values (suc (suc zero)) = 1
count_of_values (suc (suc (suc zero))) = 1
count_of_values (suc (suc (suc (suc zero)))) = 3
count_of_values (suc (suc (suc (suc (suc zero))))) = 4
count_of_values (suc (suc (suc (suc (suc (suc k)))))) = 0

-- entry k
unfoldable pub entry_in : List ℕ → ℕ → Entry
entry_in ws k = record { token = get_or ws (entry_place k) 0; class = get_or ws (entry_place k + 1) 0; values = take (count_of_values (get_or ws (entry_place k + 1) 0)) (drop (entry_place k + 2) ws) }

unfoldable pub entries_in : List ℕ → ℕ → List Entry
entries_in ws n = map (entry_in ws) (below n)

-- an entry in six words: its token, its class, its values filled up with zeros to four
unfoldable pub entry_words : Entry → List ℕ
entry_words e = e.token ∷ e.class ∷ get_or e.values 0 0 ∷ get_or e.values 1 0 ∷ get_or e.values 2 0 ∷ get_or e.values 3 0 ∷ []
