use Rattle.std.proofs.Common.{◌≡◌, ℕ, ◌+◌, ◌-◌, ◌++◌, List, take, ap, ◌∙◌, arith, drop-drop}
use borrow.Rule.Slice.PartMut.{put_mid}
use Rattle.lr1_tables.specs.conflict_words.Tokens.{token_words}
use Rattle.lr1_base.specs.words.Insert.{put_at}
use Rattle.lr1_tables.proofs.conflict_words.write_one.Goals as goal

pub returns : goal.returns
unfolding put_at token_words
returns c = let k : c.args.at + 5 - c.args.at ≡ 5 = omega arith in
    rw k (ap (λ (l : List ℕ). put_mid c.args.at 5 c.args.list.now l) (c.copy_from_slice.ensures.after ∙ c.words.ensures)
    ∙ ap (λ (l : List ℕ). take c.args.at c.args.list.now ++ (token_words c.args.pair c.args.token ++ l)) (drop-drop 5 c.args.at c.args.list.now))
