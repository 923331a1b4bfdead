use native.Mathlib.Omega.{arith}
use mathlib.Core.Path.{sym, ◌∙◌}
use mathlib.Core.List.{◌++◌}
use Prim.Native.Nat.{ℕ}
use lib.ListN.{drop}
use lib.Seq.{length_front, length-take-le}
use Rattle.lr1_base.specs.repr.Sizes.{grammar_room}
use Rattle.conflicts.proofs.classification.Ways.{reads-front}
use Rattle.conflicts.proofs.choice.Choices.{chosen-zeroed}
use Rattle.conflicts.proofs.choice.choose_read.Goals as goal

pub slice_bounds-prepare-end : goal.slice_bounds-prepare-end
slice_bounds-prepare-end c = omega (arith, c.requires.classify_scratch_in_bounds)

pub slice_bounds-prepare-end-2 : goal.slice_bounds-prepare-end-2
slice_bounds-prepare-end-2 c = sym (length-take-le grammar_room c.args.scratch.now (omega (arith, c.requires.classify_scratch_in_bounds)))

pub prepare-prepared-requires : goal.prepare-prepared-requires
prepare-prepared-requires c = length-take-le grammar_room c.args.scratch.now (omega (arith, c.requires.classify_scratch_in_bounds))

pub slice_bounds-given-end : goal.slice_bounds-given-end
slice_bounds-given-end c = let l = length_front {A = ℕ} c.args.scratch.now c.prepare-prepared.new.words grammar_room c.prepare-prepared.auto.words in omega (arith, l, c.requires.classify_scratch_in_bounds)

pub slice_bounds-given-end-2 : goal.slice_bounds-given-end-2
slice_bounds-given-end-2 c = let l = length_front {A = ℕ} c.args.scratch.now c.prepare-prepared.new.words grammar_room c.prepare-prepared.auto.words in sym (length-take-le grammar_room (c.prepare-prepared.new.words ++ drop grammar_room c.args.scratch.now) (omega (arith, l, c.requires.classify_scratch_in_bounds)))

pub given-given-requires : goal.given-given-requires
given-given-requires c = reads-front _ _ _ _ _ _ _ _ grammar_room (c.prepare-prepared.auto.words ∙ length-take-le grammar_room c.args.scratch.now (omega (arith, c.requires.classify_scratch_in_bounds))) c.prepare-prepared.ensures

pub invariant_of-choice : goal.invariant_of-choice
invariant_of-choice c = record { fits = rw c.given-given.ensures.table c.requires.tokens_value }

pub zero-requires : goal.zero-requires
zero-requires c = let l = length_front {A = ℕ} c.args.scratch.now c.prepare-prepared.new.words grammar_room c.prepare-prepared.auto.words in omega (arith, l, c.requires.classify_scratch_in_bounds)

pub shape_of-scratch : goal.shape_of-scratch
shape_of-scratch c = c.zero.auto.words ∙ length_front {A = ℕ} c.args.scratch.now c.prepare-prepared.new.words grammar_room c.prepare-prepared.auto.words

pub returns : goal.returns
returns c = chosen-zeroed _ _ c.args.scratch.now _ c.prepare-prepared.new.words grammar_room (rw c.given-given.ensures.table at c.choose_gathered-chosen.ensures) (c.prepare-prepared.auto.words ∙ length-take-le grammar_room c.args.scratch.now (omega (arith, c.requires.classify_scratch_in_bounds))) (omega arith) c.zero.ensures
