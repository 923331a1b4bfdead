use Rattle.std.proofs.Common.{arith, ap, ◌∙◌}
use lib.ListN.{length}
use Rattle.output_text.proofs.conflict_lines.Laws.{put_as}
use Rattle.output_text.proofs.conflict_lines.Numerals.{numeral_decimal, decimal_short}
use Rattle.output_text.proofs.conflict_lines.put_number.Goals as goal

pub put_text-requires : goal.put_text-requires
put_text-requires c = let e = ap length (c.as_bytes.ensures.value ∙ c.format.ensures.text) in omega (arith, e, decimal_short c.args.n (omega arith))

pub returns : goal.returns
returns c =
    let e = c.as_bytes.ensures.value ∙ c.format.ensures.text in
    (put_as c.put_text.ensures (e ∙ numeral_decimal c.args.n (omega arith)), omega (arith, ap length e, c.put_text.ensures.place, decimal_short c.args.n (omega arith)))
