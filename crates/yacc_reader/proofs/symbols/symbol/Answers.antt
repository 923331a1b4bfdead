use Rattle.yacc_reader.proofs.symbols.Laws.{symbol-left, symbol-token}
use Rattle.yacc_reader.proofs.symbols.symbol.Goals as goal

pub returns-in-Some : goal.returns-in-Some
returns-in-Some c = λ i S H. symbol-left _ _ _ (c.in-Some.ensures i _ _ H)

pub returns-in-None : goal.returns-in-None
returns-in-None c = λ i S H. rw c.unwrap_or.ensures (symbol-token _ _ (c.in-None.ensures i _ _ H) _ (c.token.ensures i _ _ H))
