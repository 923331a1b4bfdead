use Rattle.std.proofs.Common.{arith, ℕ, ap, length, length-take}
use Rattle.output_text.proofs.conflict_lines.Texts.{example-put}
use Rattle.output_text.proofs.conflict_lines.put_example.Goals as goal

pub returns : goal.returns
returns c =
    let p = c.put-first.ensures.place in
    let q = c.put.ensures.place in
    (example-put c.args.example.now c.length.ensures c.cursor.ensures c.symbols.ensures c.reductions.ensures c.put-first.ensures c.put_after-second.ensures.0 c.put_after-third.ensures.0 c.put_symbols-fourth.ensures.0 c.put_reductions-fifth.ensures.0 c.put.ensures, omega (arith, length-take {A = ℕ}, ap length c.symbols.ensures, ap length c.reductions.ensures, c.requires.whole.few_symbols, c.requires.whole.few_reductions, p, q, c.put_after-second.ensures.1, c.put_after-third.ensures.1, c.put_symbols-fourth.ensures.1, c.put_reductions-fifth.ensures.1))
