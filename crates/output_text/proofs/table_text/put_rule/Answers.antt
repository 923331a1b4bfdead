use native.Mathlib.Omega.{arith}
use Rattle.output_text.proofs.table_text.Texts.{rule-put}
use Rattle.output_text.proofs.table_text.put_rule.Goals as goal

pub returns : goal.returns
returns c =
    let s = c.split_at.ensures in
    (rule-put _ _ _ s.front s.back c.put_named-first.ensures.0 c.put_text-second.ensures c.put_symbols-third.ensures.0 c.put_text-fourth.ensures c.put_symbols.ensures.0, omega (arith, s.front_len, s.back_len, c.put_named-first.ensures.1, c.put_text-second.ensures.place, c.put_symbols-third.ensures.1, c.put_text-fourth.ensures.place, c.put_symbols.ensures.1))
