use Rattle.std.proofs.Common.{◌∙◌}
use native.Mathlib.Omega.{arith}
use Rattle.conflicts.proofs.judgement.Ways.{operator_words}
use Rattle.conflicts.proofs.judgement.is_operator.Goals as goal

pub overflow_cast-nonterminal : goal.overflow_cast-nonterminal
overflow_cast-nonterminal c = omega (arith, c.owner-nonterminal.ensures, c.args.grammar.packed.owner _ c.requires)

pub returns : goal.returns
returns c = operator_words _ _ c.args.grammar.packed _ c.requires c.args.terminal _ c.symbols.result.now _ c.owner-nonterminal.ensures c.symbols.ensures (c.eq.ensures ∙ rw c.as_slice.ensures)
