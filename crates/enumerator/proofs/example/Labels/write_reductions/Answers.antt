use Rattle.std.proofs.Common.{◌<◌, [], ◌∷◌, length, refl, arith}
use Rattle.lr1_base.specs.repr.Packed.{productions_in}
use Rattle.enumerator.specs.example.Labels.{labels_in}
use Rattle.enumerator.proofs.example.Sizes.{length_symbols}
use Rattle.lr1_base.proofs.words.Put.{turn_start, turn_room, turn_more, turn_end}
use Rattle.enumerator.proofs.example.Reductions.{around-length}
use Rattle.enumerator.proofs.example.Walk.{around_few, prefix-step, prefix-left, around-next, around_turn, around-done}
use Rattle.enumerator.proofs.example.Labels.write_reductions.Goals as goal

pub overflow_sub-end : goal.overflow_sub-end
overflow_sub-end c = let ps = productions_in c.args.self.grammar.words.now c.args.self.grammar.productions in
    let ws = c.args.self.words.now in
    omega (arith, length_symbols ps (labels_in ws), c.totals-totals.ensures.1, c.requires.places_value.0)

pub loop-label-init : goal.loop-label-init
loop-label-init c = let ps = productions_in c.args.self.grammar.words.now c.args.self.grammar.productions in
    let ws = c.args.self.words.now in
    let r = around-length ps c.args.places (labels_in ws) in (
      turn_start _ _ _ _ refl (omega (arith, r, c.requires.labels_in_bounds)),
      c.totals-totals.ensures.0,
      omega (arith, length_symbols ps (labels_in ws), c.totals-totals.ensures.1, c.requires.places_value.0),
      omega arith,
    )

pub overflow_sub-start : goal.overflow_sub-start
overflow_sub-start c = let ps = productions_in c.args.self.grammar.words.now c.args.self.grammar.productions in
    let ws = c.args.self.words.now in
    let I = c.loop-label.invariant in
    let l : c.loop-label.label < length (labels_in ws) = omega (arith, c.count-label-end.ensures.0, c.loop-label-test.true) in
    let q = prefix-step ps ws c.loop-label.label l in
    omega (arith, q, I.1, c.prefix_length-start.ensures)

pub overflow_add-end : goal.overflow_add-end
overflow_add-end c = let ps = productions_in c.args.self.grammar.words.now c.args.self.grammar.productions in
    let ws = c.args.self.words.now in
    let I = c.loop-label.invariant in
    let l : c.loop-label.label < length (labels_in ws) = omega (arith, c.count-label-end.ensures.0, c.loop-label-test.true) in
    let q = around-next ps ws c.args.places c.loop-label.label l _ _ I.1 I.2 _ _ c.prefix_length-start.ensures c.suffix_length-end.ensures in
    omega (arith, q.1, c.requires.places_value.1)

pub put_three-requires : goal.put_three-requires
put_three-requires c = let ps = productions_in c.args.self.grammar.words.now c.args.self.grammar.productions in
    let ws = c.args.self.words.now in
    let I = c.loop-label.invariant in
    let l : c.loop-label.label < length (labels_in ws) = omega (arith, c.count-label-end.ensures.0, c.loop-label-test.true) in
    let q = around-next ps ws c.args.places c.loop-label.label l _ _ I.1 I.2 _ _ c.prefix_length-start.ensures c.suffix_length-end.ensures in
    let few = around_few c.args.self.grammar.words.now c.args.self.grammar.productions c.args.self.grammar.packed ws c.args.self.fit in (
      turn_room I.0 (_ ∷ _ ∷ _ ∷ []) _ (around_turn ps ws c.args.places c.loop-label.label l _ _ _ q.0 q.1 c.nonterminal.ensures.0),
      omega (arith, I.1, prefix-left ps ws c.loop-label.label, few),
      omega (arith, q.1, c.requires.places_value.1),
      c.nonterminal.ensures.1,
    )

pub loop-label-preserved : goal.loop-label-preserved
loop-label-preserved c = let ps = productions_in c.args.self.grammar.words.now c.args.self.grammar.productions in
    let ws = c.args.self.words.now in
    let I = c.loop-label.invariant in
    let l : c.loop-label.label < length (labels_in ws) = omega (arith, c.count-label-end.ensures.0, c.loop-label-test.true) in
    let q = around-next ps ws c.args.places c.loop-label.label l _ _ I.1 I.2 _ _ c.prefix_length-start.ensures c.suffix_length-end.ensures in (
      turn_more I.0 _ _ (around_turn ps ws c.args.places c.loop-label.label l _ _ _ q.0 q.1 c.nonterminal.ensures.0) _ c.put_three.ensures,
      q.0,
      q.1,
      omega (arith, c.loop-label-test.true),
    )

pub returns : goal.returns
returns c = let ps = productions_in c.args.self.grammar.words.now c.args.self.grammar.productions in
    let ws = c.args.self.words.now in
    (turn_end c.loop-label.invariant.0 (around-done ps ws _ c.loop-label.label (omega (arith, c.count-label-end.ensures.0, c.loop-label-test.false)))).0
