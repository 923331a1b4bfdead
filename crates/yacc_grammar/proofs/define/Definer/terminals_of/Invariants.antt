use Rattle.std.proofs.Common.{◌<◌, All, vec_len}
use Rattle.yacc_grammar.proofs.define.Definer.terminals_of.Given as goal

abbrev pub invariant-loop-name-2 : goal.invariant-loop-name-2
invariant-loop-name-2 l = All (λ t. t < vec_len l.self.table.grammar.terminals) l.terminals.items
