use Rattle.std.proofs.Common.{arith, ◌∙◌, ◌*◌}
use Rattle.std.proofs.lemmas.List.{length-take-le, take_all}
use Rattle.program_io.specs.table_stream.Given.{Holds}
use Rattle.program_io.proofs.table_stream.read_table_words.Goals as goal

pub returns-clause-words : goal.returns-clause-words
unfolding Holds
returns-clause-words g c =
    let n = c.in_ok-records.records * 4 in
    let H = c.in_ok-records.ensures.words in
    let e = length-take-le n c.read_table.new.table (omega (arith, H.0, c.requires.1, c.read_table.auto.table)) in
    (c.in_ok-records.records, (e, (H.0, take_all n _ (omega (arith, e)) ∙ H.1)))
