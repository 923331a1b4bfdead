-- A list of calls in lent words, and what making them leaves: a whole list, in code (docs/RULES.md, "A list of calls").
use Rattle.std.specs.Prelude.{ℕ, zero, suc, ◌+◌, ◌%◌, ◌/◌, Bool, true, false, List, [], ◌∷◌, ◌++◌, map, length, take, drop, leb, ltb, eqb}
use Rattle.lr1_base.specs.repr.Reply.{Reply, answered, refused}
use Rattle.lr1_base.specs.repr.Meaning.{Item}
use Rattle.table.specs.Decoded.{meaning}
use Rattle.trace_graph.specs.Words.{edges_in}
use Rattle.enumerator.specs.trials.Lister.{plain_lister}
use Rattle.enumerator.specs.trials.Advance.{Outcome, set_of, open_of}
use Rattle.enumerator.specs.trials.Calls.{Lent, Left, left_by, listing_by, scratch_by, called, calls, scratch_after, lengths, left_all}
use Rattle.enumerator.specs.trials.Lookahead.{Lookahead}
use Rattle.enumerator.specs.declared.trials.Listing.{Listing}
use Rattle.enumerator.specs.declared.trials.Advanced.{Advanced}
use Rattle.enumerator.specs.declared.trials.Advanced.TheVariants.{Example, End}

-- three numbers a call: how much of the graph and of the scratch it is lent, and the length of its buffer. Its part of the output is three words and the buffer
unfoldable pub lents_in : List ℕ → List ℕ → List Lent
lents_in [] out = []
lents_in (g ∷ []) out = []
lents_in (g ∷ s ∷ []) out = []
lents_in (g ∷ s ∷ b ∷ cs) out = record { graph = g; scratch = s; buffer = take b (drop 3 out) } ∷ lents_in cs (drop (3 + b) out)

-- the words of the output that the calls ask
unfoldable pub output_words : List ℕ → ℕ
output_words [] = 0
output_words (g ∷ []) = 0
output_words (g ∷ s ∷ []) = 0
output_words (g ∷ s ∷ b ∷ cs) = 3 + b + output_words cs

-- 0 for an example, 16 for the end, else the refusal
unfoldable pub number_of_answer : Reply Advanced → ℕ
number_of_answer (answered Example) = 0
number_of_answer (answered End) = 16
number_of_answer (refused n r) = n

-- what is recorded of a call: its answer's number, its count in two words, its buffer
unfoldable pub record_of : Left → List ℕ
record_of l = number_of_answer l.answer ∷ l.count % 65536 ∷ l.count / 65536 ∷ l.buffer

unfoldable pub records_of : List Left → List ℕ
records_of [] = []
records_of (l ∷ ls) = record_of l ++ records_of ls

-- the listing, the scratch and its part of the output after one call
pub data Made : Type 0 where
  made : Listing → List ℕ → List ℕ → Made

unfoldable pub made_by : ℕ → List ℕ → Outcome → Made
made_by m scratch o = made (listing_by o) (scratch_by m scratch o) (record_of (left_by o))

unfoldable pub made_of : List ℕ → List ℕ → Listing → ℕ → ℕ → List ℕ → List ℕ → Made
made_of t g l n m scratch part = made_by m scratch (called t g l scratch (record { graph = n; scratch = m; buffer = drop 3 part }))

-- refusals of the list: 9 for a call cut short, 11 for an output that is too short; 0 for none. By whether it is whole calls, and whether the output has their words
unfoldable pub refusal_by : Bool → Bool → ℕ
refusal_by false enough = 9
refusal_by true false = 11
refusal_by true true = 0

unfoldable pub refusal_of_calls : List ℕ → ℕ → ℕ
refusal_of_calls cs n = refusal_by (eqb (length cs % 3) 0) (leb (output_words cs) n)

-- answer, scratch and output
pub data Ran : Type 0 where
  listed : Reply ℕ → List ℕ → List ℕ → Ran

-- the lowest refusal that applies, of the list's and of opening's; else the number of calls, and of each what the plain lister says
unfoldable pub list_by : List ℕ → Item → Lookahead → List ℕ → List ℕ → List ℕ → List ℕ → ℕ → Reply Listing → Ran
list_by t i ahead cs g scratch out zero (refused n r) = listed (refused n r) scratch out
list_by t i ahead cs g scratch out (suc k) (refused n r) = elim (ltb (suc k) n) [ true ↦ listed (refused (suc k) 0) scratch out | false ↦ listed (refused n r) scratch out ]
list_by t i ahead cs g scratch out (suc k) (answered l) = listed (refused (suc k) 0) scratch out
list_by t i ahead cs g scratch out zero (answered l) =
    let ks = lents_in cs out in
    listed (answered (length cs / 3)) (scratch_after t g l scratch ks)
    (records_of (left_all ks (plain_lister (meaning t) (edges_in g) i (set_of ahead) (map (lengths g scratch) ks))) ++ drop (output_words cs) out)

-- `examples`: table, start item, any lookahead, calls, graph, scratch, output
unfoldable pub list_of : List ℕ → Item → Lookahead → List ℕ → List ℕ → List ℕ → List ℕ → Ran
list_of t i ahead cs g scratch out = list_by t i ahead cs g scratch out (refusal_of_calls cs (length out)) (open_of t i ahead g)

-- the scratch and the output once the calls are made, through the definition that `advance` is equated with
pub data Ended : Type 0 where
  ended : List ℕ → List ℕ → Ended

unfoldable pub ended_of : List ℕ → List ℕ → List ℕ → Listing → List ℕ → List ℕ → List ℕ → Ended
ended_of t g cs l scratch front out =
    let ks = lents_in cs out in
    ended (scratch_after t g l scratch ks) (front ++ (records_of (calls t g l scratch ks) ++ drop (output_words cs) out))
