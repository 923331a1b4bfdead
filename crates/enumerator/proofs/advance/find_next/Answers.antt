use mathlib.Core.Path.{refl}
use Rattle.enumerator.specs.trials.Advance.{start_of, moved}
use Rattle.enumerator.proofs.advance.Finding.{start_at, searching, hands-read, hit-tried, found-hit, found_out_lem, found-over}
use native.Mathlib.Omega.{arith}
use Rattle.enumerator.proofs.advance.find_next.Goals as goal

pub search-requires : goal.search-requires
search-requires c = record { searching = (_, (_, searching _ c.requires.viewing.1 c.requires.viewing.0 (start_at _ _ _ c.requires.is_open_value.0 c.requires.is_open_value.1) c.begin.ensures)) }

pub write_trial-requires : goal.write_trial-requires
write_trial-requires c = let L = c.requires.viewing.1 in
    let A = start_at _ _ _ c.requires.is_open_value.0 c.requires.is_open_value.1 in
    let B = c.begin.ensures in record { tried = (_, hit-tried L A _ _ _ _ B (c.search.ensures _ _ (searching _ L c.requires.viewing.0 A B)) _ c.in-Hit.is); example_room_in_bounds = c.requires.scratch_words_in_bounds.1 }

pub returns-in-Hit : goal.returns-in-Hit
unfolding start_of moved
returns-in-Hit c = let L = c.requires.viewing.1 in
    let A = start_at _ _ _ c.requires.is_open_value.0 c.requires.is_open_value.1 in
    let B = c.begin.ensures in
    λ n T R.
    found-hit L A _ _ _ _ B (c.search.ensures _ _ (searching _ L c.requires.viewing.0 A B)) T R _ _ _ (hands-read T R _ _ _ _ c.first_sets-sets.ensures) _ c.in-Hit.is _ _ refl c.requires.is_open_value.0 _ (c.write_trial.ensures _)

pub returns-in-Out : goal.returns-in-Out
unfolding start_of moved
returns-in-Out c = let L = c.requires.viewing.1 in
    let A = start_at _ _ _ c.requires.is_open_value.0 c.requires.is_open_value.1 in
    let B = c.begin.ensures in
    λ n T R.
    found_out_lem L A _ _ _ _ B (c.search.ensures _ _ (searching _ L c.requires.viewing.0 A B)) T R _ _ _ (hands-read T R _ _ _ _ c.first_sets-sets.ensures) _ c.in-Out.is _ _ refl refl

pub returns-in-Over : goal.returns-in-Over
unfolding start_of moved
returns-in-Over c = let L = c.requires.viewing.1 in
    let A = start_at _ _ _ c.requires.is_open_value.0 c.requires.is_open_value.1 in
    let B = c.begin.ensures in
    λ n T R.
    found-over L A _ _ _ _ B (c.search.ensures _ _ (searching _ L c.requires.viewing.0 A B)) T R _ _ _ (hands-read T R _ _ _ _ c.first_sets-sets.ensures) c.in-Over.is _ _ _ refl (omega arith) refl
