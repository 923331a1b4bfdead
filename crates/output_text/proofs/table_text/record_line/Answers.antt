use Rattle.std.proofs.Common.{◌*◌, ◌+◌, ◌-◌, drop, arith}
use Rattle.output_text.proofs.table_text.Texts.{part_short, line-put}
use Rattle.output_text.proofs.table_text.record_line.Goals as goal

pub put_record-third-requires : goal.put_record-third-requires
put_record-third-requires c =
    let s = part_short (c.args.reached.number * 4 + 4 - c.args.reached.number * 4) (drop (c.args.reached.number * 4) c.args.reached.table.words.now) (omega arith) in
    omega (arith, s, c.put_words-first.ensures.1, c.put_named-second.ensures.1, c.put_words-first.ensures.0.long, c.put_named-second.ensures.0.long, c.requires)

pub returns : goal.returns
returns c = line-put _ _ _ _ (c.args.reached.number * 4 + 4 - c.args.reached.number * 4) (omega arith) c.put_words-first.ensures.0 c.put_named-second.ensures.0 c.put_record-third.ensures.0 c.put.ensures
