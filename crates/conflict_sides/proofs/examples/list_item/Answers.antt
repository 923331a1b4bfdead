use mathlib.Core.Path.{refl}
use Rattle.std.proofs.lemmas.Result.{err_from_is_err_and}
use Rattle.conflict_sides.proofs.examples.Opening.{listable_view, item-listed, item-full}
use Rattle.conflict_sides.proofs.examples.Turns.{trials-none}
use Rattle.conflict_sides.proofs.examples.list_item.Goals as goal

pub open_view-requires : goal.open_view-requires
open_view-requires c = record { room = refl; blank = c.new-lists.ensures }

pub view-view-requires : goal.view-view-requires
view-view-requires c = c.in_ok-open_view.ensures.listable.view.viewed.tidy

pub list_outlines-requires : goal.list_outlines-requires
list_outlines-requires c = record { listable = (_, (_, listable_view _ _ _ _ _ _ _ c.args.item.given.reads _ _ _ c.open_view.new.words _ _ _ c.in_ok-open_view.ensures.listable _ _ c.filter-filter.ensures.grammar c.view-view.result c.view-view.ensures.lists c.view-view.ensures.codes)); count_in_bounds = c.requires }

pub returns : goal.returns
returns c =
    let O = c.in_ok-open_view.ensures.listable in
    let L = listable_view _ _ _ _ _ _ _ c.args.item.given.reads _ _ _ c.open_view.new.words _ _ _ O _ _ c.filter-filter.ensures.grammar c.view-view.result c.view-view.ensures.lists c.view-view.ensures.codes in
    let g = c.filter-filter.ensures.grammar in
    let s = c.filter-filter.ensures.sets in
    record { listed_on = rw c.traces_shift-shift.ensures at (item-listed _ _ _ _ _ _ _ c.args.item.given.reads _ _ _ _ _ _ _ _ _ _ O.view.few c.requires (rw (g.0, g.1, s.0, s.1) at (c.list_outlines.ensures.listed_on _ _ L))); trials_in = c.list_outlines.ensures.trials_in; same = c.list_outlines.ensures.same }

pub returns-in_err-open_view : goal.returns-in_err-open_view
returns-in_err-open_view c =
    let p = err_from_is_err_and c.from_residual.result c.from_residual.ensures.1 in
    rw (p.1, p.2) (record { listed_on = item-full _ _ _ _ _ _ _ c.args.item.given.reads _ _ _ _ _ _ _ _ _ (c.in_err-open_view.ensures.edge_limit_in_bounds); trials_in = trials-none _; same = (refl, refl) })
