use Rattle.std.proofs.Common.{◌≡◌, ◌≤◌, true, false, sym, ◌∙◌, arith, length}
use Rattle.std.proofs.lemmas.List.{take_all}
use Rattle.std.proofs.lemmas.List.Elements.{All-more, All-contains}
use Rattle.first_sets.proofs.Grown.{on_false}
use Rattle.automaton.specs.Alternatives.{alternatives_of}
use Rattle.automaton.specs.Spreading.{IsSpreadFrom, AreSpread}
use Rattle.automaton.proofs.Spreads.{shape_trans, keeps_trans, all_same}
use Rattle.automaton.proofs.closure.give_rules.Goals as goal
use Rattle.automaton.proofs.closure.give_rules.Goals.{then-give_alternatives, else-give_alternatives}

pub loop-n-preserved : goal.loop-n-preserved
loop-n-preserved c =
    let i = c.loop-n.n-index in
    let inv = c.loop-n.invariant in
    let g = c.args.grammar.now in
    let f = c.args.first.now in
    let s = c.args.alternatives.now in
    let new = c.give_alternatives.new.table in
    record {
      shape = shape_trans inv.shape c.give_alternatives.ensures.shape;
      keeps = keeps_trans inv.keeps c.give_alternatives.ensures.keeps;
      same = λ e. elim c.if-give_alternatives.branch [
        | then-give_alternatives w ↦ let bad : true ≡ false = sym w.changed-is ∙ e in cc
        | else-give_alternatives w ↦ keeps_trans w.if-give_alternatives.ensures.same (inv.same (sym w.changed-is ∙ e))
      ];
      spread = λ e. elim c.if-give_alternatives.branch [
        | then-give_alternatives w ↦ let bad : true ≡ false = sym w.changed-is ∙ e in cc
        | else-give_alternatives w ↦
            let all = rw c.of.ensures at w.if-give_alternatives.ensures.spread in
            All-more (AreSpread g f s new) c.args.reached.now i _ (omega arith)
            (all_same g f s c.give_alternatives.ensures.keeps w.if-give_alternatives.ensures.same _ (inv.spread (sym w.changed-is ∙ e)))
            (record { spread = λ q listed. All-contains (IsSpreadFrom g f new _) (alternatives_of s _) q all listed })
      ];
      few = omega (arith, c.give_alternatives.ensures.room.0, inv.few);
      less = λ e. elim c.if-give_alternatives.branch [
        | then-give_alternatives w ↦ omega (arith, w.if-give_alternatives.ensures.room.1, inv.few)
        | else-give_alternatives w ↦ omega (arith, inv.less (sym w.changed-is ∙ e), c.give_alternatives.ensures.room.0)
      ];
    }

pub returns-clause-spread : goal.returns-clause-spread
returns-clause-spread c = on_false c.loop-n.changed (λ e.
    let enough : length c.args.reached.now ≤ c.loop-n.n-index = omega arith in rw take_all at (c.loop-n.invariant.spread e))
