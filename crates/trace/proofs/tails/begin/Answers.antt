use Rattle.std.proofs.Common.{sym, refl, ◌∙◌}
use Rattle.trace.proofs.tails.begin.Goals as goal

pub returns-then-at-eq0 : goal.returns-then-at-eq0
returns-then-at-eq0 c = record { chain = λ _. (refl, sym c.if-at-eq0.true); listed = λ ne _. absurd (ne c.if-at-eq0.true) }

-- src/tails.rt:222:9
pub returns-then-at-word : goal.returns-then-at-word
returns-then-at-word c = record { chain = λ _. (refl, refl); listed = λ ne e. absurd (c.if-at-word.true (e ∙ sym c.word.ensures.0)) }

-- src/tails.rt:224:9
pub word-slot-requires : goal.word-slot-requires
word-slot-requires c = (c.requires.1 (λ z. c.if-at-eq0.false (c.if-at-word.false ∙ c.word.ensures.0 ∙ z))).0

-- src/tails.rt:227:13
pub word-requires-2 : goal.word-requires-2
word-requires-2 c = rw c.word-slot.ensures.0 (c.requires.1 (λ z. c.if-at-eq0.false (c.if-at-word.false ∙ c.word.ensures.0 ∙ z))).1

-- src/tails.rt:214:1
pub returns : goal.returns
returns c = record { chain = λ h. absurd (c.if-at-eq0.false (h (c.if-at-word.false ∙ c.word.ensures.0))); listed = λ _ _. (c.word-slot.ensures.0, c.word-2.ensures.0) }
