use Rattle.trace.proofs.tails.after.Goals as goal

pub begin-requires : goal.begin-requires
begin-requires c = c.requires.in_bounds

-- src/tails.rt:238:9
pub returns-then-slot-eq0 : goal.returns-then-slot-eq0
returns-then-slot-eq0 c = record { chain = λ _. c.begin.ensures; listed = λ ne. absurd (ne c.if-slot-eq0.true) }

-- src/tails.rt:240:9
pub word-follows-requires : goal.word-follows-requires
word-follows-requires c = (c.requires.slot_in_bounds c.if-slot-eq0.false).0

-- src/tails.rt:243:13
pub word-requires : goal.word-requires
word-requires c = rw c.word-follows.ensures.0 (c.requires.slot_in_bounds c.if-slot-eq0.false).1

-- src/tails.rt:232:1
pub returns : goal.returns
returns c = record { chain = λ z. absurd (c.if-slot-eq0.false z); listed = λ _. (c.word-follows.ensures.0, c.word.ensures.0) }
