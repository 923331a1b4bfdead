use Rattle.yacc_reader.proofs.symbol_table.Lookup.{kept_of}
use Rattle.yacc_reader.proofs.symbol_table.SymbolTable.enter.Goals as goal

pub enter_all-entered-requires : goal.enter_all-entered-requires
enter_all-entered-requires c = c.requires

pub invariant_of-ids : goal.invariant_of-ids
invariant_of-ids c = record { kept = kept_of _ _ _ _ _ _ _ c.requires.1 c.enter_all-entered.ensures }

pub invariant_of-result : goal.invariant_of-result
invariant_of-result c = record { named = c.enter_all-entered.ensures; grammar = c.requires.1 }
