-- Any lookahead that a listing filters by: none, or a set of tokens.
use Rattle.std.specs.Prelude.{Option}
use Rattle.lr1_base.specs.declared.lookahead.TokenSet.{TokenSet}

abbrev pub Lookahead : Type 0
Lookahead = Option TokenSet
