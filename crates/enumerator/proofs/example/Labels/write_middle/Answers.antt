use Rattle.std.proofs.Common.{ℕ, List, length, sym, ap, ◌∙◌, arith}
use Rattle.lr1_base.proofs.repr.Lists.{joined_nil}
use Rattle.enumerator.specs.example.Example.{symbol_words}
use Rattle.lr1_base.specs.repr.Lists.{joined}
use Rattle.lr1_base.specs.words.Insert.{put_at}
use Rattle.lr1_base.proofs.words.Put.{put-nil}
use Rattle.enumerator.proofs.example.Labels.write_middle.Goals as goal

pub returns-in-None : goal.returns-in-None
returns-in-None c =
    let at = c.args.at in
    let b = c.args.buffer.now in
    let e = ap (joined symbol_words) c.in-None.ensures ∙ joined_nil symbol_words in
    (sym (put-nil at b) ∙ ap (λ (l : List ℕ). put_at at l b) (sym e), omega (arith, ap length e))
