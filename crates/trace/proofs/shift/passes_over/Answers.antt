use Rattle.std.proofs.Common.{sym, ◌∙◌, true≢false, arith}
use Rattle.table.proofs.Decoding.{fits}
use Rattle.trace.proofs.shift.passes_over.Goals as goal

pub is_entered-requires : goal.is_entered-requires
is_entered-requires c = record { room = c.requires.room; within = (c.requires.within.0, omega (arith, (fits _ c.args.tracer.working.accepted).few_nonterminals, c.requires.within.2)) }

pub adds_nothing-requires : goal.adds_nothing-requires
adds_nothing-requires c = record { room = c.requires.room; within = (c.requires.within.0, c.requires.within.1); clear = c.requires.clear }

pub returns-then-is_entered : goal.returns-then-is_entered
returns-then-is_entered c = record { nonterminal_value = λ _. sym c.is_entered.ensures ∙ c.if-is_entered.true; clear_2 = c.adds_nothing.ensures }

pub returns-else-is_entered : goal.returns-else-is_entered
returns-else-is_entered c = record { nonterminal_value = λ e. absurd (true≢false (sym e ∙ c.if-is_entered.false)); clear_2 = λ e. absurd (true≢false (sym e ∙ c.if-is_entered.false)) }
