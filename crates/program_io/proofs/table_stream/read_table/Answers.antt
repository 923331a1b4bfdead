use Rattle.std.proofs.Common.{arith, ap, ◌∙◌, ◌*◌, ◌≡◌, ◌++◌, length, take, drop}
use Rattle.std.proofs.lemmas.Grind.{common_steps}
use Rattle.lr1_base.proofs.le_words.Laws.{words-front}
use Rattle.program_io.specs.table_stream.Given.{Holds}
use Rattle.program_io.proofs.table_stream.read_table.Goals as goal

pub returns-clause-words : goal.returns-clause-words
unfolding Holds
returns-clause-words g c =
    let n = c.from_le_bytes-records.result in
    let e : length (take (n * 8) (c.read_whole-2.new.bytes ++ drop (n * 8) c.args.bytes.now)) ≡ n * 8 = grind (arith, common_steps) in
    (omega arith, ap (take (n * 4)) c.decode.ensures.1 ∙ words-front _ _ (n * 4) (n * 8) e (omega arith))
