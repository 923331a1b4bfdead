-- The search at its end: all states and edges of some start production in words; and the table that is to be written of them.
use Rattle.std.specs.Prelude.{ℕ, ◌+◌, ◌≤◌, ◌<◌, ◌≡◌, List, length, get_or}
use Rattle.lr1_base.specs.repr.Sizes.{state_limit}
use Rattle.lr1_base.specs.repr.Meaning.{Table}
use Rattle.table_rewrite.specs.spelling.Spelled.{items_place, edges_at}
use Rattle.lr1_states.specs.closure.Grammar.{OfTable}
use Rattle.lr1_states.specs.goto.Steps.{found_to}
use Rattle.lr1_states.specs.declared.goto.Sizes.{Sizes}
use Rattle.lr1_tables.specs.declared.FoundStates.{FoundStates}
use Rattle.lr1_states.specs.start_state.Start.{Counted}
use Rattle.lr1_states.specs.collection.Rows.{FoundAll}
use Rattle.lr1_tables.specs.sizes.Complete.{Complete}
use Rattle.table_rewrite.specs.grammar_records.Target.{Target, PackedAs}
use Rattle.lr1_tables.specs.state_records.Rows.{ItemsIn, EdgesIn}

-- the numbers of a table and of the output's room, and that sums of them are exact
pub record SizesOf (T : Table) (room : ℕ) (sizes : Sizes) : Type 0 where
  pub counted : Counted T room sizes.nonterminals sizes.fixed sizes.limit
  pub small : sizes.fixed ≤ 65536

pub record Ended (T : Table) (room : ℕ) (found : FoundStates) : Type 0 where
  pub start : ℕ
  pub sets : List ℕ
  pub grammar : OfTable T found.kept.grammar.words.now found.kept.grammar.productions found.terminals sets
  pub started : start < found.kept.grammar.productions
  pub counted : Counted T room found.sizes.nonterminals found.sizes.fixed found.sizes.limit
  pub small : found.sizes.fixed ≤ 65536
  pub all : FoundAll T start (found_to T start room) found.kept.words.now found.kept.begins.now.items found.edges.now.list.words found.edges.now.rows found.kept.begins.now.states

-- as `measure` takes it
module _ {T : Table} {room : ℕ} {found : FoundStates} (s : Ended T room found) where
  abbrev pub complete : Complete found.kept found.sizes found.edges.now.rows
  complete = record {
    T = T;
    start = s.start;
    room = room;
    terminals = found.terminals;
    sets = s.sets;
    w = found_to T s.start room;
    E = found.edges.now.list.words;
    grammar = s.grammar;
    started = s.started;
    counted = s.counted;
    small = s.small;
    all = s.all;
  }

-- U has the packed productions and the states that the words hold, and its regions begin where the numbers say
pub record Laid (U : Table) (found : FoundStates) (out : List ℕ) : Type 0 where
  pub target : Target U found.sizes.nonterminals found.terminals found.kept.begins.now.states out
  pub few : found.kept.begins.now.states ≤ state_limit
  pub many : found.kept.grammar.productions ≡ length U.productions
  pub packed : PackedAs U found.kept.grammar.words.now found.kept.grammar.productions
  pub items : ItemsIn U found.kept.words.now found.kept.begins.now.items
  pub edges : EdgesIn U found.edges.now.list.words found.edges.now.rows
  pub items_at : found.sizes.fixed + found.kept.begins.now.states ≡ items_place U
  pub edges_at : found.sizes.fixed + found.kept.begins.now.states + get_or found.kept.begins.now.items found.kept.begins.now.states 0 ≡ edges_at U
