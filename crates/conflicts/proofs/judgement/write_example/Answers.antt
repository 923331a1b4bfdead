use mathlib.Core.Path.{ap, ◌∙◌}
use mathlib.Core.List.{List}
use native.Mathlib.Omega.{arith}
use Rattle.lr1_base.specs.repr.Meaning.{Production}
use Rattle.lr1_base.specs.words.Lent.{in_front}
use Rattle.enumerator.specs.example.Example.{example_words}
use Rattle.conflict_sides.specs.outline.Kept.{nth}
use Rattle.conflicts.proofs.judgement.Sides.{kept-place, kept_turn, kept_labels, kept-code, kept_again, table_fits}
use Rattle.conflicts.proofs.judgement.write_example.Goals as goal

pub write_kept-requires : goal.write_kept-requires
write_kept-requires c = record { within = omega arith; example_room_in_bounds = ((_, kept_labels _ _ _ c.requires.side_kept.0 _ _ c.requires.side_kept.1.0 c.args.k c.requires.side_kept.1.1 _ c.args.case.given.reads.same (omega arith)), c.requires.example_room_in_bounds) }

pub returns-then-k-lt-LABELLED : goal.returns-then-k-lt-LABELLED
returns-then-k-lt-LABELLED c = λ xs K h. c.write_kept.ensures (nth xs c.args.k) (kept_labels _ _ _ xs _ _ K c.args.k h _ c.args.case.given.reads.same (omega arith)) ∙ ap (λ (ps : List Production). in_front (example_words ps (nth xs c.args.k)) c.args.buffer.now) c.args.case.given.reads.same

pub outline-outline-requires : goal.outline-outline-requires
outline-outline-requires c = (kept-place _ _ _ c.requires.side_kept.0 _ _ c.requires.side_kept.1.0 c.args.k c.requires.side_kept.1.1).0

pub turn_at-turn-requires : goal.turn_at-turn-requires
turn_at-turn-requires c = kept_turn _ _ _ c.requires.side_kept.0 _ _ c.requires.side_kept.1.0 c.args.k c.requires.side_kept.1.1

pub action_again-requires : goal.action_again-requires
action_again-requires c = record { code_fits = λ e. kept-code _ _ _ c.requires.side_kept.0 _ _ c.requires.side_kept.1.0 c.args.k c.requires.side_kept.1.1 _ c.outline-outline.ensures (table_fits _ _ _ _ _ _ _ c.args.case.given.reads) e; example_room_in_bounds = c.requires.example_room_in_bounds }

pub returns : goal.returns
returns c = λ xs K h. c.action_again.ensures (nth xs c.args.k) (kept_again _ _ _ xs _ _ K c.args.k h _ c.outline-outline.ensures _ c.turn_at-turn.ensures)
