use Rattle.std.proofs.Common.{◌+◌, ◌*◌, ◌/◌, ◌%◌, inl, inr, arith}
use Rattle.std.proofs.lemmas.List.{with_items_is}
use Rattle.bit_table.specs.Bits.{IsOn}
use Rattle.bit_table.proofs.Places.{bit_added, word_within}
use Rattle.bit_table.proofs.table.BitTable.insert.Goals as goal

pub returns-clause-only : goal.returns-clause-only
returns-clause-only c r k has =
    let t = c.args.self.now in
    let set : IsOn c.or_word.new.words (r * t.width + k / 64) (k % 64) =
    rw (with_items_is t.words c.or_word.new.words (omega arith)) at has.set in
    elim
    (bit_added t.words.items t.width c.args.row c.args.column r k (word_within k t.columns t.width has.within t.wide) (word_within c.args.column t.columns t.width c.requires.column t.wide)
    (rw c.deref_mut.ensures.value at (c.or_word.ensures.only (r * t.width + k / 64) (k % 64) set))) [
      | inl old ↦ inl (record { within = has.within; set = old })
      | inr new ↦ inr new
    ]
