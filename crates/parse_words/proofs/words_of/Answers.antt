use Rattle.std.proofs.Common.{◌≡◌, ◌/◌, ◌%◌, get_or, [], ◌∷◌, Some, ap, sym, ◌∙◌, arith, rules}
use Rattle.parse_words.specs.Text.{goes, step}
use Rattle.parse_words.specs.Bytes.{words_in, reader_of, fed_of, put_words}
use Rattle.parse_words.proofs.Scans.{scanning_more, scanning_stops, scanning_end}
use Rattle.parse_words.proofs.words_of.Goals as goal
use Rattle.parse_words.proofs.words_of.Goals.{in-Some-word, in_default-word}

pub returns-in_default-clause-result_after : goal.returns-in_default-clause-result_after
returns-in_default-clause-result_after c = scanning_stops c.loop-byte.invariant (omega arith) (ap fed_of (sym c.in_default.is) ∙ c.feed.ensures) c.requires.bytes_len_bound.1

pub loop-byte-preserved : goal.loop-byte-preserved
unfolding put_words
loop-byte-preserved c =
    let q = reader_of c.in-Some.fed.reader in
    let fed : fed_of (Some c.in-Some.fed) ≡ step (reader_of c.loop-byte.reader) (get_or c.args.bytes.now c.loop-byte.byte-index 0) = ap fed_of (sym c.in-Some.is) ∙ c.feed.ensures in
    elim c.match-fed.branch [
      | in-Some-word w ↦ scanning_more c.loop-byte.invariant (omega arith) (w.in-Some-word.word ∷ []) q (ap (λ o. goes (words_in o) q) (sym w.in-Some-word.is) ∙ fed) (let e : w.in-Some-word.word / 256 % 256 ≡ w.in-Some-word.word / 256 = search rules in rw (w.out-is, w.to_le_bytes.ensures) (rw e)) (omega arith)
      | in_default-word w ↦ scanning_more c.loop-byte.invariant (omega arith) [] q (ap (λ o. goes (words_in o) q) (sym w.in_default-word.is) ∙ fed) (sym w.out-is) (omega arith)
    ]

pub returns-clause-result_after : goal.returns-clause-result_after
returns-clause-result_after c = (scanning_end c.loop-byte.invariant (omega arith) c.requires.bytes_len_bound.1).0
