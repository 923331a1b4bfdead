use Rattle.std.proofs.Common.{refl, ne_eqb, ◌∙◌}
use Rattle.conflicts.proofs.judgement.Reading.{buffer_room, reading_counts, reading_cursors, reading_words}
use native.Mathlib.Omega.{arith}
use Rattle.conflicts.proofs.judgement.same_reading.Goals as goal

pub word-count-requires : goal.word-count-requires
word-count-requires c = let b = buffer_room _ _ _ c.requires.1.1.1.0 in omega (arith, b)

pub word-requires : goal.word-requires
word-requires c = let b = buffer_room _ _ _ c.requires.1.1.1.1 in omega (arith, b)

pub returns-else-count-word : goal.returns-else-count-word
returns-else-count-word c = λ ps x y A B. ne_eqb _ _ c.if-count-word.false ∙ reading_counts ps x y _ _ A B _ _ c.word-count.ensures.0 c.word.ensures.0 c.if-count-word.false

pub word-requires-then-count-word : goal.word-requires-then-count-word
word-requires-then-count-word c = let b = buffer_room _ _ _ c.requires.1.1.1.0 in omega (arith, b)

pub word-requires-then-count-word-2 : goal.word-requires-then-count-word-2
word-requires-then-count-word-2 c = let b = buffer_room _ _ _ c.requires.1.1.1.1 in omega (arith, b)

pub slice_bounds-eq-end : goal.slice_bounds-eq-end
slice_bounds-eq-end c = let b = buffer_room _ _ _ c.requires.1.1.1.0 in omega (arith, b, c.word-count.ensures.0)

pub slice_bounds-eq-end-then-word : goal.slice_bounds-eq-end-then-word
slice_bounds-eq-end-then-word c = let b = buffer_room _ _ _ c.requires.1.1.1.1 in omega (arith, b, c.word-count.ensures.0, c.word.ensures.0, c.if-count-word.true)

pub returns-then-word : goal.returns-then-word
returns-then-word c = λ ps x y A B. reading_words ps x y _ _ A B _ _ _ _ _ _ c.word-count.ensures.0 c.word.ensures.0 c.if-count-word.true c.word-then-count-word.ensures.0 c.word-then-count-word-2.ensures.0 c.if-word.true refl c.eq.ensures

pub returns-else-word : goal.returns-else-word
returns-else-word c = λ ps x y A B. ne_eqb _ _ c.if-word.false ∙ reading_cursors ps x y _ _ A B _ _ c.word-then-count-word.ensures.0 c.word-then-count-word-2.ensures.0 c.if-word.false
