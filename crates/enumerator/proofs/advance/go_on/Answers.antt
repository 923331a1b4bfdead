use mathlib.Core.Path.{sym, ◌∙◌}
use Rattle.enumerator.specs.trials.Advance.{start_of}
use Rattle.enumerator.proofs.advance.Ways.{started, go_lost, go_stray, go_ended, go_found}
use Rattle.enumerator.proofs.advance.go_on.Goals as goal

pub lost-requires : goal.lost-requires
lost-requires c = record { started = started c.requires.listable; scratch_words_in_bounds = c.requires.scratch_words_in_bounds.0 }

pub returns-then-lost : goal.returns-then-lost
returns-then-lost c = λ n T R q. go_lost _ _ _ _ T q c.requires.listable.ranged.long c.requires.scratch_words_in_bounds.0 c.requires.scratch_words_in_bounds.1 (sym c.lost.ensures ∙ c.if-lost.true)

pub returns-then-not-is_node : goal.returns-then-not-is_node
unfolding start_of
returns-then-not-is_node c = λ n T R q. go_stray _ _ _ _ T q c.requires.listable.ranged.long c.requires.scratch_words_in_bounds.0 c.requires.scratch_words_in_bounds.1 (sym c.lost.ensures ∙ c.if-lost.false) (rw (← c.start.ensures.0, ← c.start.ensures.1) (sym c.if-not-is_node.ensures))

pub returns-then-not-listing : goal.returns-then-not-listing
unfolding start_of
returns-then-not-listing c = λ n T R q. go_ended _ _ _ _ T q c.requires.listable.ranged.long c.requires.scratch_words_in_bounds.0 c.requires.scratch_words_in_bounds.1 (sym c.lost.ensures ∙ c.if-lost.false) (rw (← c.start.ensures.0, ← c.start.ensures.1) (sym c.if-not-is_node.ensures)) (let h = c.if-not-listing.true in cc)

pub returns : goal.returns
unfolding start_of
returns c = λ n T R q. go_found _ _ _ _ T q c.requires.listable.ranged.long c.requires.scratch_words_in_bounds.0 c.requires.scratch_words_in_bounds.1 (sym c.lost.ensures ∙ c.if-lost.false) (rw (← c.start.ensures.0, ← c.start.ensures.1) (sym c.if-not-is_node.ensures)) (let h = c.if-not-listing.false in cc) _ (c.find_next.ensures n T R)
