use Rattle.yacc_reader.proofs.symbol_table.Lookup.{place_at, left_other}
use Rattle.yacc_reader.proofs.symbol_table.IdTable.left.Goals as goal

pub left_place-requires : goal.left_place-requires
left_place-requires c = let k = c.args.self.now.kept in record { entered = (k.names, k.left); from_lt_past = (c.args.lexeme.wide, c.requires) }

pub returns-in-Name : goal.returns-in-Name
returns-in-Name c = λ i ns ts H. place_at _ _ _ _ _ _ _ c.in-Name.is (c.left_place.ensures _ ns ts H)

pub returns-in_default : goal.returns-in_default
returns-in_default c = λ i ns ts H. left_other _ _ _ _ _ _ _ _ _ H _ _ _ c.in_default.not-Name i
