use Rattle.std.proofs.Common.{◌+◌, drop, arith}
use Rattle.lr1_base.specs.repr.Packed.{productions_in}
use Rattle.enumerator.specs.example.Example.{suffixes}
use Rattle.enumerator.specs.example.Labels.{labels_in}
use Rattle.enumerator.specs.example.Written.{words_of}
use Rattle.lr1_base.proofs.words.Put.{turn_room, turn_more, turn_end}
use Rattle.enumerator.proofs.example.Walk.{suffix_turn, suffix-done}
use Rattle.enumerator.proofs.example.Labels.write_suffixes.Goals as goal

pub copy-requires : goal.copy-requires
copy-requires c = let ps = productions_in c.args.self.grammar.words.now c.args.self.grammar.productions in
    let ws = c.args.self.words.now in
    turn_room c.loop-label.invariant.0 c.suffix-part.result.now (words_of (suffixes ps (drop (c.loop-label.label + 1) (labels_in ws)))) (suffix_turn ps ws c.loop-label.label (omega (arith, c.count-label-end.ensures.0, c.loop-label-test.true)) _ c.suffix-part.ensures)

pub loop-label-preserved : goal.loop-label-preserved
loop-label-preserved c = let ps = productions_in c.args.self.grammar.words.now c.args.self.grammar.productions in
    let ws = c.args.self.words.now in
    (turn_more c.loop-label.invariant.0 _ _ (suffix_turn ps ws c.loop-label.label (omega (arith, c.count-label-end.ensures.0, c.loop-label-test.true)) _ c.suffix-part.ensures) _ c.copy.ensures, omega (arith, c.loop-label-test.true, c.loop-label.invariant.1))

pub returns : goal.returns
returns c = let ps = productions_in c.args.self.grammar.words.now c.args.self.grammar.productions in
    let ws = c.args.self.words.now in
    turn_end c.loop-label.invariant.0 (suffix-done ps ws c.loop-label.label (omega (arith, c.count-label-end.ensures.0, c.loop-label-test.false)))
