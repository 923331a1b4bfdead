use Rattle.std.proofs.Common.{◌+◌, ◌*◌, ◌/◌, ◌%◌, inl, inr, arith}
use Rattle.std.proofs.lemmas.List.{with_items_is}
use Rattle.bit_table.specs.Bits.{IsOn}
use Rattle.bit_table.proofs.Places.{rows_apart, row_added, word_within}
use Rattle.bit_table.proofs.table.BitTable.add_row.Goals as goal

pub or_range-requires-clause-apart : goal.or_range-requires-clause-apart
or_range-requires-clause-apart c = rows_apart c.args.into c.args.from c.args.self.now.width c.if-into-from.false

pub returns-clause-only : goal.returns-clause-only
returns-clause-only c r k has =
    let t = c.args.self.now in
    let set : IsOn c.or_range.new.words (r * t.width + k / 64) (k % 64) =
    rw (with_items_is t.words c.or_range.new.words (omega arith)) at has.set in
    elim
    (row_added t.words.items t.width c.args.into c.args.from r k (word_within k t.columns t.width has.within t.wide)
    (rw c.deref_mut.ensures.value at (c.or_range.ensures.only (r * t.width + k / 64) (k % 64) set))) [
      | inl old ↦ inl (record { within = has.within; set = old })
      | inr new ↦ inr (new.0, record { within = has.within; set = new.1 })
    ]
