-- All states found, as words hold them: what counting and writing them gets, and what is decided at the end.
use Rattle.std.specs.Prelude.{Result, Ok, Err, ℕ, ◌+◌, ◌≤◌, ◌<◌, ◌≡◌, List, length}
use Rattle.lr1_base.specs.repr.Meaning.{Edge, Table}
use Rattle.lr1_states.specs.closure.Grammar.{OfTable}
use Rattle.lr1_states.specs.canonical.States.{built, clashes}
use Rattle.lr1_states.specs.canonical.Outcome.{sum, records, refused, full, finish}
use Rattle.lr1_states.specs.state_list.Made.{Holds}
use Rattle.lr1_states.specs.goto.Steps.{Found}
use Rattle.lr1_states.specs.start_state.Start.{Counted}
use Rattle.lr1_states.specs.collection.Rows.{FoundAll}
use Rattle.lr1_tables.specs.declared.sizes.Measured.{Measured}
use Rattle.lr1_states.specs.declared.goto.Halt.{Halt}
use Rattle.lr1_states.specs.declared.goto.Sizes.{Sizes}
use Rattle.lr1_tables.specs.declared.sizes.KeptStates.{KeptStates}
use Rattle.lr1_states.specs.declared.goto.Halt.TheVariants.{Records}

-- the states are those of some table
pub record Collection (kept : KeptStates) : Type 0 where
  pub T : Table
  pub start : ℕ
  pub terminals : ℕ
  pub sets : List ℕ
  pub Rs : List (List ℕ)
  pub grammar : OfTable T kept.grammar.words.now kept.grammar.productions terminals sets
  pub started : start < kept.grammar.productions
  pub holds : Holds T start kept.words.now kept.begins.now.items Rs
  pub many : kept.begins.now.states ≡ length Rs

-- with their edges, and the numbers of specs/start_state/Start of lr1_states
pub record Complete (kept : KeptStates) (sizes : Sizes) (es : List ℕ) : Type 0 where
  pub T : Table
  pub start : ℕ
  pub room : ℕ
  pub terminals : ℕ
  pub sets : List ℕ
  pub w : Found
  pub E : List ℕ
  pub grammar : OfTable T kept.grammar.words.now kept.grammar.productions terminals sets
  pub started : start < kept.grammar.productions
  pub counted : Counted T room sizes.nonterminals sizes.fixed sizes.limit
  pub small : sizes.fixed ≤ 65536
  pub all : FoundAll T start w kept.words.now kept.begins.now.items E es kept.begins.now.states

abbrev pub collection : (kept : KeptStates) (sizes : Sizes) (es : List ℕ) → Complete kept sizes es → Collection kept
collection kept sizes es s = record {
  T = s.T;
  start = s.start;
  terminals = s.terminals;
  sets = s.sets;
  Rs = s.all.Rs;
  grammar = s.grammar;
  started = s.started;
  holds = s.all.holds;
  many = s.all.many;
}

-- refusal 17 for the edges or the conflicts, else how many records and conflicts there are, which 32 bits hold
unfoldable pub MeasuredAs : Table → ℕ → ℕ → List (List ℕ) → List (List Edge) → Result Measured Halt → Type 0
MeasuredAs T room words Rs ds (Err h) = (h ≡ Records) × (finish T room words (built Rs ds) ≡ refused 17)
MeasuredAs T room words Rs ds (Ok m) =
    (finish T room words (built Rs ds) ≡ full Rs ds) × (m.records ≡ records T Rs + sum (λ (es : List Edge). length es) ds) × (m.conflicts ≡ sum (λ (S : List ℕ). length (clashes T S)) Rs) × (m.conflicts ≤ 135266304)
