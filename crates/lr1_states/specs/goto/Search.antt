-- What stands in the words while states are found, and what one step leaves.
use Rattle.std.specs.Prelude.{◌≡◌, ℕ, ◌+◌, ◌*◌, ◌^◌, ◌<◌, ◌≤◌, min, Bool, true, false, Option, Some, None, Result, Ok, Err, List, [], length, slice_index, slice_index_or, slice_set}
use Rattle.lr1_base.specs.repr.Sizes.{index_limit, record_limit}
use Rattle.lr1_base.specs.repr.Meaning.{Symbol, nonterminal, terminal, Production, Table}
use Rattle.lr1_states.specs.closure.Grammar.{OfTable}
use Rattle.lr1_states.specs.canonical.Outcome.{sum}
use Rattle.lr1_states.specs.stored_item.Stored.{Entry, entries, packed}
use Rattle.lr1_states.specs.state_list.Kept.{put_all}
use Rattle.lr1_states.specs.state_list.Made.{Holds}
use Rattle.lr1_states.specs.goto.Steps.{Reach, nowhere, stops, reach}
use Rattle.lr1_states.specs.declared.goto.Halt.{Halt}
use Rattle.lr1_states.specs.declared.goto.Halt.TheVariants.{States, Records}
use Rattle.lr1_states.specs.declared.goto.Source.{Source}

-- the number of the refusal for what a search lacks
abbrev pub refusal_of : Halt → ℕ
refusal_of States = 16
refusal_of Records = 17

-- the words of a kernel are some list of sets, packed
pub record KernelIn (ks : List ℕ) (many productions : ℕ) : Type 0 where
  pub kernel : List ℕ
  pub long : length kernel ≡ index_limit * productions
  pub fits : (x : ℕ) → slice_index kernel x < 2 ^ 64
  pub is : entries ks 0 many ≡ packed kernel

-- one state more behind n of them, where the records without items, `fixed`, and all items are at most `limit`
pub record Stored (fixed limit : ℕ) (es : List Entry) (ws ws' bs bs' : List ℕ) (n : ℕ) (r : Bool) : Type 0 where
  pub room : r ≡ true → fixed + (slice_index bs n + length es) ≤ limit
  pub none : r ≡ false → limit < fixed + (slice_index bs n + length es)
  pub words : r ≡ true → ws' ≡ put_all ws (slice_index bs n) es
  pub begins : r ≡ true → bs' ≡ slice_set bs (n + 1) (slice_index bs n + length es)

-- the words and numbers that a step gets: those of some search, Rs found so far
pub record Search (source : Source) (ws bs : List ℕ) (n : ℕ) : Type 0 where
  pub T : Table
  pub start : ℕ
  pub room : ℕ
  pub Rs : List (List ℕ)
  pub grammar : OfTable T source.grammar.words.now source.grammar.productions source.sets.now.terminals source.sets.now.map
  pub started : start < length T.productions
  pub nonterminals_are : source.sizes.nonterminals ≡ length T.nonterminals
  pub fixed_is : source.sizes.fixed ≡ 1 + length T.nonterminals + length T.productions + sum (λ (p : Production). length p.symbols) T.productions
  pub fixed_small : source.sizes.fixed ≤ 65536
  pub limit_is : source.sizes.limit ≡ min room record_limit
  pub holds : Holds T start ws bs Rs
  pub many : n ≡ length Rs

-- more states: those of before keep their numbers
pub record Keeps (Rs Qs : List (List ℕ)) : Type 0 where
  pub long : length Rs ≤ length Qs
  pub same : (k : ℕ) → k < length Rs → slice_index_or Qs k [] ≡ slice_index_or Rs k []

-- what one step over a symbol leaves: w is what it should come to, m how many states there are then
unfoldable pub Reached : Table → ℕ → List (List ℕ) → Reach → List ℕ → List ℕ → ℕ → Result (Option ℕ) Halt → Type 0
Reached T start Rs w ws bs m (Ok None) = (w ≡ nowhere) × (m ≡ length Rs) × Holds T start ws bs Rs
Reached T start Rs w ws bs m (Err h) = w ≡ stops (refusal_of h)
Reached T start Rs w ws bs m (Ok (Some t)) = (Qs : List (List ℕ)) × (w ≡ reach t Qs) × (m ≡ length Qs) × (t < m) × Holds T start ws bs Qs × Keeps Rs Qs

-- whether a symbol is one of a table's with so many nonterminals and terminals
unfoldable pub IsOneOf : ℕ → ℕ → Symbol → Type 0
IsOneOf nonterminals terminals (nonterminal n) = n < nonterminals
IsOneOf nonterminals terminals (terminal t) = t < terminals
