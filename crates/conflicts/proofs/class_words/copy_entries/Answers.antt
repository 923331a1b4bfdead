use mathlib.Core.Path.{◌≡◌, refl, ap, ◌∙◌}
use mathlib.Core.List.{◌++◌}
use Prim.Native.Nat.{ℕ, ◌*◌}
use lib.ListN.{drop}
use Rattle.lr1_base.specs.repr.Sizes.{entry_room}
use Rattle.lr1_base.specs.repr.Lists.{joined}
use Rattle.conflicts.specs.class_words.Entries.{entries_in, entry_words}
use Rattle.conflicts.proofs.class_words.Laws.{copied_first, copied_more}
use native.Mathlib.Omega.{arith}
use Rattle.conflicts.proofs.class_words.copy_entries.Goals as goal

pub loop-k-init : goal.loop-k-init
loop-k-init c = (omega arith, refl, copied_first _ _)

pub read_class-words-requires : goal.read_class-words-requires
read_class-words-requires c = (omega (arith, c.loop-k-test.true, c.requires), omega (arith, c.requires))

pub write_words-requires : goal.write_words-requires
write_words-requires c = (omega (arith, c.loop-k-test.true, c.requires), omega (arith, c.loop-k.invariant, c.requires))

pub loop-k-preserved : goal.loop-k-preserved
loop-k-preserved c = (omega (arith, c.loop-k-test.true), c.to-1.given ∙ c.loop-k.invariant.1, copied_more c.args.from.now c.args.to.now c.loop-k.to c.loop-k.k (omega (arith, c.loop-k-test.true, c.requires)) c.loop-k.invariant.1 c.loop-k.invariant.2 _ _ c.read_class-words.ensures c.write_words.ensures)

pub shape_of-to : goal.shape_of-to
shape_of-to c = c.loop-k.invariant.1

pub returns : goal.returns
returns c = let e : c.loop-k.k ≡ c.args.count = omega (arith, c.loop-k.invariant, c.loop-k-test.false) in c.loop-k.invariant.2 ∙ ap (λ (k : ℕ). joined entry_words (entries_in c.args.from.now k) ++ drop (entry_room * k) c.args.to.now) e
