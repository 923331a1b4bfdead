use Rattle.std.proofs.Common.{arith}
use Rattle.lr1_states.proofs.stored_item.Stored.{read_is}
use Rattle.lr1_states.proofs.stored_item.StoredItem.of.Goals as goal

pub returns : goal.returns
returns c = (read_is _ _ _ _ _ _ c.word.ensures.0 c.from-a.ensures c.from-b.ensures c.from-c.ensures c.from-d.ensures, omega (arith, (c.type_inv.words 1).fits, (c.type_inv.words 2).fits, (c.type_inv.words 3).fits, (c.type_inv.words 4).fits))
