use Rattle.std.proofs.Common.{◌*◌}
use mathlib.Core.Path.{◌≡◌}
use native.Mathlib.Omega.{arith}
use Rattle.table_rewrite.proofs.spelling.Grown.{grown-none}
use Rattle.table_rewrite.proofs.spelling.Writing.{follower_small}
use Rattle.lr1_tables.proofs.state_records.Laws.{no_item, chain-below, chain-room, chain-put, items_long, item_quad_lem, place_word}
use Rattle.lr1_tables.proofs.state_records.write_state_items.Goals as goal

pub loop-m-init : goal.loop-m-init
loop-m-init c = λ U S R. grown-none U _ _

pub read_item-requires : goal.read_item-requires
read_item-requires c = let h = chain-below _ _ _ _ _ _ (items_long _ _ _) c.loop-m.auto.m c.loop-m-test.true _ c.requires.stands in (omega (arith, h), omega (arith, h, c.requires.from_le_past.1))

pub overflow_sub-past-in-loop-m : goal.overflow_sub-past-in-loop-m
overflow_sub-past-in-loop-m c = omega (arith, c.loop-m-test.true)

pub overflow_add-items : goal.overflow_add-items
overflow_add-items c = omega (arith, chain-below _ _ _ _ _ _ (items_long _ _ _) c.loop-m.auto.m c.loop-m-test.true _ c.requires.stands)

pub next_of-next-requires : goal.next_of-next-requires
next_of-next-requires c = chain-below _ _ _ _ _ _ (items_long _ _ _) c.loop-m.auto.m c.loop-m-test.true _ c.requires.stands

pub overflow_add-items-in-loop-m : goal.overflow_add-items-in-loop-m
overflow_add-items-in-loop-m c = omega (arith, chain-below _ _ _ _ _ _ (items_long _ _ _) c.loop-m.auto.m c.loop-m-test.true _ c.requires.stands)

pub put-requires : goal.put-requires
put-requires c = let h = chain-room _ _ _ _ _ _ (items_long _ _ _) c.loop-m.auto.m c.loop-m-test.true _ c.requires.stands c.loop-m.out c.loop-m.auto.out in record { r_lt_record_limit = h; a_bound = (follower_small _ _ _ h.0 c.next_of-next.ensures, (omega (arith, c.at-item.ensures.0, place_word _ _ _ _ c.read_item.ensures.0, (c.type_inv.words (c.loop-m.m * 5)).fits), (omega (arith, c.at-item.ensures), omega arith))) }

pub loop-m-preserved : goal.loop-m-preserved
loop-m-preserved c = let I = c.loop-m.invariant in
    let k = c.loop-m-test.true in
    λ U S R. chain-put _ _ _ _ _ _ (items_long _ _ _) c.loop-m.auto.m k _ U S _ c.next_of-next.ensures R _ _ _ _ _ no_item c.loop-m.auto.out (item_quad_lem _ _ _ _ _ _ _ c.loop-m.auto.m k (place_word _ _ _ _ c.read_item.ensures.0)) (rw (c.at-item.ensures.0, c.at-item.ensures.1) at c.put.ensures) (I U S R)

pub returns : goal.returns
returns c = λ U S R. let z : c.loop-m.m ≡ c.args.past = omega (arith, c.loop-m.auto.m-end c.requires.from_le_past.0, c.loop-m-test.false) in rw z at (c.loop-m.invariant U S R)
