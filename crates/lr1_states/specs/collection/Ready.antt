-- What a whole search gets: the grammar of some table in words, and its numbers.
use Rattle.std.specs.Prelude.{ℕ, ◌≤◌, ◌<◌}
use Rattle.lr1_base.specs.repr.Meaning.{Table}
use Rattle.lr1_states.specs.closure.Grammar.{OfTable}
use Rattle.lr1_states.specs.declared.goto.Source.{Source}
use Rattle.lr1_states.specs.start_state.Start.{Counted}

pub record Ready (source : Source) (start : ℕ) : Type 0 where
  pub T : Table
  pub room : ℕ
  pub grammar : OfTable T source.grammar.words.now source.grammar.productions source.sets.now.terminals source.sets.now.map
  pub counted : Counted T room source.sizes.nonterminals source.sizes.fixed source.sizes.limit
  pub started : start < source.grammar.productions
  pub small : source.sizes.fixed ≤ 65536
