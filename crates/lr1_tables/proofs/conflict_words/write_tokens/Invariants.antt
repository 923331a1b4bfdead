use Rattle.lr1_tables.specs.conflict_words.Tokens.{token_words}
use Rattle.lr1_base.proofs.words.Put.{Turn}
use Rattle.lr1_base.specs.lookahead.Tokens.{members}
use Rattle.lr1_base.specs.repr.Lists.{joined}
use Rattle.lr1_tables.proofs.conflict_words.write_tokens.Given as goal

abbrev pub invariant-loop-token : goal.invariant-loop-token
invariant-loop-token l = Turn l.at (joined (token_words l.pair) (members l.fn.set.0)) l.initial.list l.place (joined (token_words l.pair) (members l.token-iterator.0)) l.list
