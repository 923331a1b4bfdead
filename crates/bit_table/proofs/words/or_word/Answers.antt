use Rattle.std.proofs.Common.{get_or, arith}
use Rattle.bit_table.proofs.Masks.{or_adds, with_mask-keeps, with_mask-adds, with_mask-only, room-with_mask}
use Rattle.bit_table.proofs.words.or_word.Goals as goal

pub returns-then-new-old-clause-adds : goal.returns-then-new-old-clause-adds
returns-then-new-old-clause-adds c b on = rw c.if-new-old.true at (or_adds (get_or c.args.words.now c.args.i 0) c.args.mask b on)

pub returns-clause-keeps : goal.returns-clause-keeps
returns-clause-keeps c = with_mask-keeps c.args.words.now c.args.i c.args.mask c.requires

pub returns-clause-adds : goal.returns-clause-adds
returns-clause-adds c = with_mask-adds c.args.words.now c.args.i c.args.mask c.requires

pub returns-clause-only : goal.returns-clause-only
returns-clause-only c = with_mask-only c.args.words.now c.args.i c.args.mask c.requires

pub returns-clause-less : goal.returns-clause-less
returns-clause-less c = room-with_mask c.args.words.now c.args.i c.args.mask c.requires (omega (arith, c.items_fit)) (omega arith) c.if-new-old.false
