use Rattle.std.proofs.Common.{◌≡◌, refl, ◌∙◌, ap, rules, tests}
use Rattle.std.proofs.lemmas.Iterator.{YieldsList-from_map}
use Rattle.std.proofs.lemmas.Iterator.Consumers.{YieldsList-at, YieldsList-from_filter}
use Rattle.lr1_states.specs.stored_item.Stored.{entry_at}
use Rattle.std.specs.Slice.Iter.{chunks_exact_rest}
use Rattle.lr1_states.proofs.stored_item.Stored.{all_entries, all_part}
use Rattle.lr1_states.proofs.stored_item.Same.{eq_told, chunks, item_of, past?, kernel_list}
use Rattle.lr1_states.proofs.stored_item.same_kernel.Goals as goal

pub returns : goal.returns
unfolding all_entries
returns c =
    eq_told c.eq.ensures.ran
    (YieldsList-from_filter _ past? (YieldsList-at c.filter-kept.ensures.source (YieldsList-from_map _ item_of (YieldsList-at c.map.ensures.source (chunks c.chunks_exact.ensures.size)) c.map.ensures.closure
    (λ x r q k. let e : record { place = r.place; set = r.set } ≡ entry_at x.now 0 = search rules in (search rules, ap item_of e))))
    c.filter-kept.ensures.closure (λ x b q k. search (rules, tests)))
    (YieldsList-from_map _ item_of (YieldsList-at c.map-2.ensures.source (chunks c.chunks_exact-wanted.ensures.size)) c.map-2.ensures.closure
    (λ x r q k. let e : record { place = r.place; set = r.set } ≡ entry_at x.now 0 = search rules in (search rules, ap item_of e)))
    ∙ kernel_list (all_entries (chunks_exact_rest c.chunks_exact.result)) (all_entries (chunks_exact_rest c.chunks_exact-wanted.result))
    ∙ rw (c.chunks_exact.ensures.rest, c.chunks_exact-wanted.ensures.rest, all_part _ _ _ c.requires.0 c.requires.2) refl
