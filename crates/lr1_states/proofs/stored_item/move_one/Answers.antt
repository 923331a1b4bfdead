use Rattle.lr1_states.proofs.stored_item.Stored.{begins_with, appended, passed}
use Rattle.std.proofs.Common.{sym, ◌∙◌, arith}
use Rattle.lr1_states.proofs.stored_item.move_one.Goals as goal

pub cursor-requires : goal.cursor-requires
cursor-requires c = (omega (arith, c.at.ensures, c.requires.within.0))

pub write_item-requires : goal.write_item-requires
write_item-requires c = (c.requires.room.0, c.requires.room.1, omega (arith, c.requires.within.0, c.args.grammar.packed.few))

pub returns-then-eq : goal.returns-then-eq
returns-then-eq c = appended _ _ _ _ _ _ _ c.requires.room.1 (rw (c.at.ensures.0, c.at.ensures.1) at (begins_with c.args.symbol _ _ _ c.cursor.ensures ∙ sym c.eq.ensures ∙ c.if-eq.true)) c.write_item.ensures

pub returns-else-eq : goal.returns-else-eq
returns-else-eq c = passed _ _ _ _ _ _ (rw (c.at.ensures.0, c.at.ensures.1) at (begins_with c.args.symbol _ _ _ c.cursor.ensures ∙ sym c.eq.ensures ∙ c.if-eq.false))
