use Rattle.std.proofs.Common.{sym, ◌∙◌, true≢false, arith}
use Rattle.trace.proofs.Passing.{packed_few, owner_few, none-shifted, none-entered, edge_there, owner_there}
use Rattle.trace.proofs.shift.is_passed.Goals as goal

pub nonterminal_at-requires : goal.nonterminal_at-requires
nonterminal_at-requires c = packed_few _ _ _ _ c.args.tracer.working _ _ c.requires.within.0

pub is_entered-requires : goal.is_entered-requires
is_entered-requires c = record { room = c.requires.room; within = (c.requires.within.1, c.in-Some.ensures.0) }

pub returns-then-not-is_entered : goal.returns-then-not-is_entered
returns-then-not-is_entered c = λ _ ws es C. none-entered _ _ _ _ c.args.tracer.working _ _ c.requires.within.0 _ _ es _ c.in-Some.ensures.1 (sym c.is_entered.ensures ∙ c.if-not-is_entered.true)

pub is_known-requires : goal.is_known-requires
is_known-requires c = c.requires.within.0

pub returns-else-is_known : goal.returns-else-is_known
returns-else-is_known c = λ e. absurd (true≢false (sym e ∙ c.if-is_known.false))

pub returns-then-item-gt0 : goal.returns-then-item-gt0
returns-then-item-gt0 c = λ _ ws es C. edge_there _ _ _ _ c.args.tracer.working _ _ c.requires.within.0 _ _ es (λ n l can. sym (c.is_known.ensures n l can ws es C) ∙ c.if-is_known.true) c.if-item-gt0.true

pub owner-requires : goal.owner-requires
owner-requires c = packed_few _ _ _ _ c.args.tracer.working _ _ c.requires.within.0

pub is_entered-requires-else-item-gt0 : goal.is_entered-requires-else-item-gt0
is_entered-requires-else-item-gt0 c = record { room = c.requires.room; within = (c.requires.within.1, omega (arith, c.owner.ensures, owner_few _ _ _ _ c.args.tracer.working _ _ c.requires.within.0)) }

pub returns-else-item-gt0 : goal.returns-else-item-gt0
returns-else-item-gt0 c = λ e ws es C. owner_there _ _ _ _ c.args.tracer.working _ _ c.requires.within.0 _ _ es (λ n l can. sym (c.is_known.ensures n l can ws es C) ∙ c.if-is_known.true) _ c.owner.ensures (sym c.is_entered-else-item-gt0.ensures ∙ e)

pub returns-in-None : goal.returns-in-None
returns-in-None c = λ _ ws es C. none-shifted _ _ _ _ c.args.tracer.working _ _ c.requires.within.0 _ _ es c.in-None.ensures
