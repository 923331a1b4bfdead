use native.Mathlib.Omega.{arith}
use Rattle.yacc_reader.proofs.symbol_table.Lookup.{place_at, token_quoted, no_id}
use Rattle.yacc_reader.proofs.symbol_table.IdTable.token.Goals as goal

pub token_place-requires : goal.token_place-requires
token_place-requires c = let k = c.args.self.now.kept in record { entered = (k.names, k.token); from_lt_past = (c.args.lexeme.wide, c.requires) }

pub returns-in-Name : goal.returns-in-Name
returns-in-Name c = λ i ns ts H. place_at _ _ _ _ _ _ _ c.in-Name.is (c.token_place.ensures _ ns ts H)

pub number_at-requires : goal.number_at-requires
number_at-requires c = let b = c.byte.ensures.1 in let k = c.args.self.now.kept.token in omega (arith, b, k)

pub returns-in-Literal : goal.returns-in-Literal
returns-in-Literal c = λ i ns ts H. token_quoted _ _ _ _ _ _ _ _ _ H _ _ _ c.in-Literal.is _ _ c.byte.ensures c.number_at.ensures

pub returns-in_default : goal.returns-in_default
returns-in_default c = λ i ns ts H. absurd (no_id _ c.in_default.not-Name c.in_default.not-Literal i)
