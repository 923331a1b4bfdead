use Rattle.table.specs.Decoded.{meaning}
use Rattle.lr1_base.specs.lookahead.Tokens.{members}
use Rattle.conflicts.proofs.choice.Tokens.{Turn}
use Rattle.conflicts.proofs.choice.choose_tokens.Given as goal

abbrev pub invariant-loop-token : goal.invariant-loop-token
invariant-loop-token l = Turn (meaning l.choice.given.table.words.now) l.choice.conflict l.choice.tokens.0 l.better l.naive (members l.token-iterator.0)
