use Rattle.std.proofs.Common.{◌-◌, take, arith}
use Rattle.lr1_base.specs.repr.Packed.{productions_in}
use Rattle.enumerator.specs.example.Example.{prefixes}
use Rattle.enumerator.specs.example.Labels.{labels_in}
use Rattle.enumerator.specs.example.Written.{words_of}
use Rattle.lr1_base.proofs.words.Put.{turn_room, turn_more, turn_end}
use Rattle.enumerator.proofs.example.Walk.{prefix_turn, prefix-done}
use Rattle.enumerator.proofs.example.Labels.write_prefixes.Goals as goal

pub copy-requires : goal.copy-requires
copy-requires c = let ps = productions_in c.args.self.grammar.words.now c.args.self.grammar.productions in
    let ws = c.args.self.words.now in
    let n = c.loop-label.label in
    let step = prefix_turn ps ws (n - 1) n (n - 1) (omega arith) (omega arith) (omega (arith, c.count-label.ensures.0)) _ c.prefix-part.ensures in
    turn_room c.loop-label.invariant c.prefix-part.result.now (words_of (prefixes ps (take (n - 1) (labels_in ws)))) step

pub loop-label-preserved : goal.loop-label-preserved
loop-label-preserved c = let ps = productions_in c.args.self.grammar.words.now c.args.self.grammar.productions in
    let ws = c.args.self.words.now in
    let n = c.loop-label.label in
    let step = prefix_turn ps ws (n - 1) n (n - 1) (omega arith) (omega arith) (omega (arith, c.count-label.ensures.0)) _ c.prefix-part.ensures in
    turn_more c.loop-label.invariant _ _ step _ c.copy.ensures

pub returns : goal.returns
returns c = let ps = productions_in c.args.self.grammar.words.now c.args.self.grammar.productions in
    turn_end c.loop-label.invariant (prefix-done ps c.args.self.words.now c.loop-label.label (omega arith))
