use mathlib.Core.Path.{refl}
use Rattle.conflict_sides.proofs.examples.Walks.{no_edge}
use Rattle.conflict_sides.proofs.examples.Opening.{listable_view}
use Rattle.conflict_sides.proofs.examples.Again.{found-tried, again_made, again_none, again_full}
use Rattle.conflict_sides.proofs.examples.item_again.Goals as goal

pub open_view-requires : goal.open_view-requires
open_view-requires c = record { room = refl; blank = c.new-lists.ensures }

pub view-view-requires : goal.view-view-requires
view-view-requires c = c.in-Ok.ensures.listable.view.viewed.tidy

pub find_example-requires : goal.find_example-requires
find_example-requires c = record { listable = (_, (_, listable_view _ _ _ _ _ _ _ c.args.item.given.reads _ _ _ c.open_view.new.words _ _ _ c.in-Ok.ensures.listable _ _ c.filter-filter.ensures.grammar c.view-view.result c.view-view.ensures.lists c.view-view.ensures.codes)); by_index = (_, no_edge) }

pub write_trial-requires : goal.write_trial-requires
write_trial-requires c =
    let O = c.in-Ok.ensures.listable in
    let L = listable_view _ _ _ _ _ _ _ c.args.item.given.reads _ _ _ c.open_view.new.words _ _ _ O _ _ c.filter-filter.ensures.grammar c.view-view.result c.view-view.ensures.lists c.view-view.ensures.codes in
    let g = c.filter-filter.ensures.grammar in
    let s = c.filter-filter.ensures.sets in
    record { tried = (_, found-tried _ _ _ _ _ _ _ c.args.item.given.reads _ _ _ O.labelled.few _ _ _ _ _ (rw (g.0, g.1, s.0, s.1) at (c.find_example.ensures _ _ L)) c.if-find_example.true); example_room_in_bounds = c.requires }

pub returns-then-find_example : goal.returns-then-find_example
returns-then-find_example c =
    let O = c.in-Ok.ensures.listable in
    let L = listable_view _ _ _ _ _ _ _ c.args.item.given.reads _ _ _ c.open_view.new.words _ _ _ O _ _ c.filter-filter.ensures.grammar c.view-view.result c.view-view.ensures.lists c.view-view.ensures.codes in
    let g = c.filter-filter.ensures.grammar in
    let s = c.filter-filter.ensures.sets in
    again_made _ _ _ _ _ _ _ c.args.item.given.reads _ _ _ O.labelled.few _ _ _ _ _ (rw (g.0, g.1, s.0, s.1) at (c.find_example.ensures _ _ L)) c.if-find_example.true _ _ c.write_trial.ensures

pub returns-else-find_example : goal.returns-else-find_example
returns-else-find_example c =
    let O = c.in-Ok.ensures.listable in
    let L = listable_view _ _ _ _ _ _ _ c.args.item.given.reads _ _ _ c.open_view.new.words _ _ _ O _ _ c.filter-filter.ensures.grammar c.view-view.result c.view-view.ensures.lists c.view-view.ensures.codes in
    let g = c.filter-filter.ensures.grammar in
    let s = c.filter-filter.ensures.sets in
    λ k x h M. again_none _ _ _ _ _ _ _ c.args.item.given.reads _ _ _ O.labelled.few _ _ _ _ _ (rw (g.0, g.1, s.0, s.1) at (c.find_example.ensures _ _ L)) c.if-find_example.false k x h M

pub returns-in_default : goal.returns-in_default
returns-in_default c = λ k x h L. again_full _ _ _ _ _ _ _ c.args.item.given.reads _ _ _ (c.in_default.ensures.edge_limit_in_bounds) k _ x L
